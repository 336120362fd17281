-- A code vector as it is kept: in one of the three forms.
use Rattle.std.specs.Prelude.{◌≡◌, ℕ, ◌^◌, ◌≤◌, List, length}
use Rattle.ut_bits.specs.Bits.{AllBelow}
use Rattle.ut_bits.specs.Coded.{Coded}
use Rattle.ut_codes.specs.declared.form.Form.{Form}
use Rattle.ut_codes.specs.declared.form.Form.TheVariants.{Packed as packed_form, Runs as runs_form, Sparse as sparse_form}
use Rattle.ut_codes.specs.declared.code_vec.Shape.{Shape}
use Rattle.ut_codes.specs.declared.code_vec.Shape.TheVariants.{Packed, Runs, Sparse}
use Rattle.ut_codes.specs.Sizes.{code_width}
use Rattle.ut_codes.specs.Forms.{form_of}

-- the codes of a vector, and their width
abbrev pub coded_in : Shape → Coded
coded_in (Packed v) = v
coded_in (Runs v) = v
coded_in (Sparse v) = v

-- the form of a vector
abbrev pub form_in : Shape → Form
form_in (Packed v) = packed_form
form_in (Runs v) = runs_form
form_in (Sparse v) = sparse_form

-- the vector has the width and the form that its codes and their reach ask for
pub record IsChosen (shape : Shape) (reach : ℕ) : Type 0 where
  pub width : (coded_in shape).width ≡ code_width reach
  pub form : form_of (coded_in shape).codes reach ≡ form_in shape
  pub below : AllBelow reach (coded_in shape).codes
  pub few : length (coded_in shape).codes ≤ 2 ^ 31

-- the codes are below their reach, and this is their form of least size
abbrev pub IsForm : List ℕ → ℕ → Form → Type 0
IsForm codes reach form = AllBelow reach codes × (form_of codes reach ≡ form)
