-- Marks of variables in pages of 65,536: the mark of a variable x is in page x / 65536 at x % 65536. A page that does
-- not exist, or is too short, has no mark.
use Rattle.std.specs.Prelude.{ℕ, ◌/◌, ◌%◌, Bool, false, Option, Some, None, List, Vec, slice_get, slice_index_or}
use Rattle.std.specs.declared.alloc.Global.{Global}

abbrev pub bit_at : List Bool → ℕ → Bool
bit_at page k = slice_index_or page k false

abbrev pub bit_of_page : Option (Vec Bool Global) → ℕ → Bool
bit_of_page None k = false
bit_of_page (Some page) k = bit_at page.items k

abbrev pub mark_at : List (Vec Bool Global) → ℕ → Bool
mark_at pages x = bit_of_page (slice_get pages (x / 65536)) (x % 65536)
