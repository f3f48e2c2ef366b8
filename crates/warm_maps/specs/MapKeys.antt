-- Where the entry of a page lies: the entries of a bucket lie together, in page order.
use Rattle.std.specs.Prelude.{◌≡◌, ℕ, ◌+◌, ◌-◌, ◌*◌, ◌/◌, ◌%◌, ◌^◌}
use Rattle.warm_stamps.specs.declared.PageId.{PageId}
use Rattle.warm_stamps.specs.Buckets.{page_bucket}
use Rattle.warm_maps.specs.declared.map_key.TheConstants.{KEYS_PER_BUCKET, KEYS_PER_DEVICE}
use Rattle.warm_maps.specs.declared.map_key.TheConstants.{NEAR_DEVICES, NEAR_KEYS_PER_DEVICE}
use Rattle.warm_maps.specs.declared.map_key.TheConstants.{PAGES_PER_NEAR_KEY}

-- the first key of a bucket
abbrev pub first_key : ℕ → ℕ
first_key bucket = bucket * KEYS_PER_BUCKET

-- the key of a page, were it in the bucket: 2^64 keys lie between a device and the next
abbrev pub key_in : ℕ → PageId → ℕ
key_in bucket p = first_key bucket + (p.dev * KEYS_PER_DEVICE + p.no)

-- the key of a page
abbrev pub key_of_page : PageId → ℕ
key_of_page p = key_in (page_bucket p) p

-- the page of a key
abbrev pub page_of_key : ℕ → PageId
page_of_key key = record { dev = key / KEYS_PER_DEVICE % 2 ^ 16; no = key % KEYS_PER_DEVICE }

-- the number is a valid key: that of a page
abbrev pub IsMapKey : ℕ → Type 0
IsMapKey key = key_of_page (page_of_key key) ≡ key

-- the key in 64 bits of a page of a near device: the bucket and the device determine the low six
-- bits of the page's number
abbrev pub near_key : PageId → ℕ
near_key p = p.dev * NEAR_KEYS_PER_DEVICE + p.no / PAGES_PER_NEAR_KEY

-- the page of the bucket that has this near key
abbrev pub near_page : ℕ → ℕ → PageId
near_page bucket key =
    record {
      dev = key / NEAR_KEYS_PER_DEVICE;
      no = key % NEAR_KEYS_PER_DEVICE * PAGES_PER_NEAR_KEY
          + (bucket + PAGES_PER_NEAR_KEY - key / NEAR_KEYS_PER_DEVICE) % PAGES_PER_NEAR_KEY;
    }

-- the full key, in the bucket, of the page that has this near key
abbrev pub full_key : ℕ → ℕ → ℕ
full_key bucket key = key_in bucket (near_page bucket key)

-- the first key of the bucket that is of no near device
abbrev pub first_far_key : ℕ → ℕ
first_far_key bucket = first_key bucket + NEAR_DEVICES * KEYS_PER_DEVICE
