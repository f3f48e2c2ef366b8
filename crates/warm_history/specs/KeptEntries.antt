-- Entries after cutting at a horizon.
use Rattle.std.specs.Prelude.{ℕ, List, map, filter}
use Rattle.warm_maps.specs.declared.hist.Entry.{Entry}
pub use Rattle.warm_maps.specs.PageHists.{is_recent, shortened, kept_hist}

-- the entry without the second latest stamp, if that is older than the horizon
abbrev pub shortened_entry : ℕ → Entry → Entry
shortened_entry horizon e = record { page = e.page; hist = shortened horizon e.hist }

-- the entries after the cut
abbrev pub kept_entries : ℕ → List Entry → List Entry
kept_entries horizon es = map (shortened_entry horizon) (filter (λ e. is_recent horizon e.hist) es)
