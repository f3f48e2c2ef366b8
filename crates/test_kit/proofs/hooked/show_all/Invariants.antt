use Rattle.std.proofs.Common.{◌≡◌, length}
use Rattle.test_kit.proofs.hooked.show_all.Given as goal

abbrev pub invariant-loop-no : goal.invariant-loop-no
invariant-loop-no g l = record {
  pages : l.inner.pages ≡ l.fn.inner.pages;
  sized : length l.page.items ≡ l.inner.page_size;
}
