use Rattle.std.proofs.Common.{◌≡◌, ◌≤◌, length, map, take, vec_capacity}
use Rattle.warm_c_base.specs.Values.{c_page}
use Rattle.warm_c_calls.proofs.history_calls.c_pages.Given as goal

-- the pages so far, and capacity for all
abbrev pub invariant-loop-page : goal.invariant-loop-page
invariant-loop-page l = record {
  made : l.listed.items ≡ map c_page (take l.page-index l.pages);
  count : length l.listed.items ≡ l.page-index;
  room : length l.pages ≤ vec_capacity l.listed;
}
