-- The form of least size, and the bytes of a code vector.
use Rattle.std.specs.Prelude.{ℕ, ◌&&◌, nat_le, if◌then◌else◌, List, ◌∷◌}
use Rattle.ut_codes.specs.declared.form.Form.{Form}
use Rattle.ut_codes.specs.declared.form.Form.TheVariants.{Packed, Runs, Sparse}
use Rattle.ut_codes.specs.Sizes.{code_width, packed_size, run_size, sparse_size}
use Rattle.ut_bits.specs.Bits.{packed_bytes}
use Rattle.ut_rle.specs.Runs.{run_bytes}
use Rattle.ut_sparse.specs.Sparse.{sparse_bytes}

-- the form of the least of three sizes; on a tie packed, then runs, then sparse
abbrev pub least_form : ℕ → ℕ → ℕ → Form
least_form packed runs sparse = if nat_le packed runs && nat_le packed sparse then Packed else (if nat_le runs sparse then Runs else Sparse)

-- the form of least size
unfoldable pub form_of : List ℕ → ℕ → Form
form_of codes reach = least_form (packed_size codes reach) (run_size codes) (sparse_size codes reach)

-- the byte that stands for a form
abbrev pub byte_of : Form → ℕ
byte_of Packed = 0
byte_of Runs = 1
byte_of Sparse = 2

-- the bytes of codes in a form
abbrev pub bytes_in : Form → ℕ → List ℕ → List ℕ
bytes_in Packed width codes = packed_bytes width codes
bytes_in Runs width codes = run_bytes codes
bytes_in Sparse width codes = sparse_bytes width codes

-- the bytes of a code vector: the byte of the form of least size, then the codes in that form
unfoldable pub code_bytes : List ℕ → ℕ → List ℕ
code_bytes codes reach = byte_of (form_of codes reach) ∷ bytes_in (form_of codes reach) (code_width reach) codes
