-- Copies of a term from one row into another, as it stands or in the form of a goal.
use Rattle.std.specs.Prelude.{◌≡◌, ℕ, ◌+◌, ◌<◌, cond, ◌&&◌, ◌||◌, List, [], length, take, Some, None, Option}
use Rattle.std.specs.Prelude.{◌==◌, slice_index_or}
use Rattle.terms.specs.declared.form.Form.{Form}
use Rattle.terms.specs.declared.form.Form.TheVariants.{Plain, Goal}
use Rattle.terms.specs.declared.node.Node.{Node}
use Rattle.terms.specs.declared.row.Row.{Row}
use Rattle.terms.specs.Term.{Term, size}
use Rattle.terms.specs.Known.{call_name}
use Rattle.terms.specs.Rows.{meaning}
use Rattle.terms.specs.Goals.{is_control, goal_form}
use Rattle.terms.specs.RowViews.{row_nodes, row_limit, SameLimit}

-- Names of which `call` has the place 6, and of which `,` and `;` have the places 3 and 4 and no others.
pub record Standard (ns : List (List ℕ)) : Type 0 where
  pub call : slice_index_or ns 6 [] ≡ call_name
  pub control : (f : ℕ) → is_control (slice_index_or ns f []) ≡ (f == 3 || f == 4)

-- any names
abbrev pub Any : List (List ℕ) → Type 0
Any ns = Unit {0}

-- the names by which a copy is read: any for a term, these for a goal
abbrev pub Reads : Form → List (List ℕ) → Type 0
Reads Plain = Any
Reads Goal = Standard

-- what a copy makes of a term
abbrev pub formed : Form → Term → Term
formed Plain = λ t. t
formed Goal = goal_form

-- the form of the arguments of a name with so many: goals where `,` or `;` stands as a goal with two
abbrev pub passed_on : Form → ℕ → ℕ → Form
passed_on Plain f n = Plain
passed_on Goal f n = cond ((f == 3 || f == 4) && n == 2) Goal Plain

-- A term behind the nodes `before`: its last node stands at p and is the last of all, and behind the old nodes
-- there are no others than its own. Which term it is depends on the names, and holds for the good ones.
pub record Added (Good : List (List ℕ) → Type 0) (term : List (List ℕ) → Term) (before after : List Node) (p : ℕ)
    : Type 0 where
  pub last : p + 1 ≡ length after
  pub kept : take (length before) after ≡ before
  pub grown : (ns : List (List ℕ)) → Good ns → length after ≡ length before + size (term ns)
  pub means : (ns : List (List ℕ)) → Good ns → meaning ns after p ≡ term ns

-- the term does not fit behind `before`
abbrev pub NoRoom : (List (List ℕ) → Type 0) → (List (List ℕ) → Term) → ℕ → List Node → Type 0
NoRoom Good term limit before = (ns : List (List ℕ)) → Good ns → limit < length before + size (term ns)

-- the term was added, or a part of it stands behind the old nodes since it does not fit
abbrev pub Laid : (List (List ℕ) → Type 0) → (List (List ℕ) → Term)
    → ℕ → List Node → List Node → Option ℕ → Type 0
Laid Good term limit before after None = (take (length before) after ≡ before) × NoRoom Good term limit before
Laid Good term limit before after (Some p) = Added Good term before after p

-- What stands at `at` in the row `source`, in the form `form`, was added; or nothing changed,
-- since there is no such place or the copy does not fit.
abbrev pub CopyOf : (List (List ℕ) → Type 0) → (Term → Term)
    → List Node → ℕ → ℕ → List Node → List Node → Option ℕ → Type 0
CopyOf Good form source at limit before after None =
    (after ≡ before) × (at < length source → NoRoom Good (λ ns. form (meaning ns source at)) limit before)
CopyOf Good form source at limit before after (Some p) =
    (at < length source) × Added Good (λ ns. form (meaning ns source at)) before after p

-- the same of rows of the code: the row that is copied into, before and after, within its limit
pub record LaidIn (Good : List (List ℕ) → Type 0) (term : List (List ℕ) → Term) (before after : Row)
    (r : Option ℕ) : Type 0 where
  pub limit : SameLimit before after
  pub laid : Laid Good term (row_limit before) (row_nodes before) (row_nodes after) r

pub record CopiedIn (Good : List (List ℕ) → Type 0) (form : Term → Term) (source : Row) (at : ℕ) (before after : Row)
    (r : Option ℕ) : Type 0 where
  pub limit : SameLimit before after
  pub copy : CopyOf Good form (row_nodes source) at (row_limit before) (row_nodes before) (row_nodes after) r
