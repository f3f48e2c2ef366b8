-- Stamps and pages as bytes: their fields one after the other, each with its highest byte first.
use Rattle.std.specs.Prelude.{ℕ, ◌<◌, ◌^◌, List, ◌++◌, take, drop}
use Rattle.std.specs.Int.{w16, w32, w64, to_be_bytes, from_be_bytes}
use Rattle.warm_stamps.specs.declared.Stamp.{Stamp}
use Rattle.warm_stamps.specs.declared.PageId.{PageId}
pub use Rattle.warm_stamps.specs.Replicas.{IsReplica}

-- eight bytes of the time, then two of the replica's number
abbrev pub bytes_of_stamp : Stamp → List ℕ
bytes_of_stamp s = to_be_bytes w64 s.time ++ to_be_bytes w16 s.replica

-- the stamp that ten bytes encode, if its replica number is valid
abbrev pub stamp_of : List ℕ → Stamp
stamp_of bytes =
    record { time = from_be_bytes w64 (take 8 bytes); replica = from_be_bytes w16 (drop 8 bytes) }

-- two bytes of the device's number, then eight of the page's
abbrev pub bytes_of_page : PageId → List ℕ
bytes_of_page p = to_be_bytes w16 p.dev ++ to_be_bytes w64 p.no

-- the page that ten bytes encode
abbrev pub page_from_bytes : List ℕ → PageId
page_from_bytes bytes =
    record { dev = from_be_bytes w16 (take 2 bytes); no = from_be_bytes w64 (drop 2 bytes) }

-- two bytes of the device's number, then four of the page's, if its number fits in 32 bits
abbrev pub narrow_bytes_of_page : PageId → List ℕ
narrow_bytes_of_page p = to_be_bytes w16 p.dev ++ to_be_bytes w32 p.no

-- the page that six bytes encode
abbrev pub page_of_narrow : List ℕ → PageId
page_of_narrow bytes =
    record { dev = from_be_bytes w16 (take 2 bytes); no = from_be_bytes w32 (drop 2 bytes) }

-- the valid stamps
pub record IsStamp (s : Stamp) : Type 0 where
  pub time : s.time < 2 ^ 64
  pub replica : IsReplica s.replica

-- the valid pages
pub record IsPage (p : PageId) : Type 0 where
  pub dev : p.dev < 2 ^ 16
  pub no : p.no < 2 ^ 64
