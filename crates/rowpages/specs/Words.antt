-- The words that the other pages share, by index: the first check that fails, each, a member, permuted.
use Rattle.std.specs.Prelude.{ℕ, ◌<◌, ◌≡◌, ◌↔◌, Bool, true, false, List, length, get_or, Ok}
use Rattle.laws.specs.Each.{Each}
use Rattle.laws.specs.Member.{Member}
use Rattle.laws.specs.Permuted.{Permuted}
use Rattle.laws.specs.Checks.{Check, FirstFailing}
use Rattle.quantities.specs.Checks.{check}
use Rattle.quantities.specs.Paper.{Paper, paper, checked_paper}
use Rattle.windows.specs.Answer.{answer_paper}
use Rattle.windows.specs.declared.Answer.TheVariants.{Shown}
use Rattle.sheet.specs.Reader.{verdict_paper}

-- The first check of a list that fails tells this number and place: a check that does so stands at an index, it
-- fails, and none before it does.
pub record FirstAt (checks : List (Check Paper)) (told : Paper) : Type 0 where
  pub index : ℕ
  pub within : index < length checks
  pub stands : get_or checks index (check 0 0 false) ≡ check told.number told.place true
  pub passed : (earlier : ℕ) → earlier < index → (get_or checks earlier (check 0 0 false)).fails ≡ false

-- That is what the other pages mean by `FirstFailing`, and `check` and `paper` have their parts in this order.
pub record FirstMeans : Type 0 where
  pub failing : (checks : List (Check Paper)) (told : Paper) → FirstFailing checks told ↔ FirstAt checks told
  pub parts : (number place : ℕ) (fails : Bool)
      → ((check number place fails).told.number ≡ number)
      × ((check number place fails).told.place ≡ place)
      × ((check number place fails).fails ≡ fails)
  pub on_paper : (number place : ℕ) → ((paper number place).number ≡ number) × ((paper number place).place ≡ place)

-- Where nothing is refused, 0 at 0 stands for the number and the place: of a list, a sheet, a table.
pub record NothingRefused : Type 0 where
  pub of_a_list : answer_paper Shown ≡ paper 0 0
  pub of_a_sheet : verdict_paper (Ok tt) ≡ paper 0 0
  pub of_a_table : checked_paper (Ok tt) ≡ paper 0 0

-- Each element of a list has a property: the one at each index does.
abbrev pub EachMeans : Type 1
EachMeans =
    (A : Type 0) (P : A → Type 0) (list : List A) (none : A)
    → Each P list ↔ ((i : ℕ) → i < length list → P (get_or list i none))

-- An element stands in a list: at an index.
pub record StandsIn (A : Type 0) (a : A) (list : List A) (none : A) : Type 0 where
  pub index : ℕ
  pub within : index < length list
  pub is : get_or list index none ≡ a

abbrev pub MemberMeans : Type 1
MemberMeans = (A : Type 0) (a : A) (list : List A) (none : A) → Member a list ↔ StandsIn A a list none

-- Permuted lists are as long, and have the same elements. (Where no two elements are equal, as with rows of
-- different priority, each then stands once.)
abbrev pub PermutedMeans : Type 1
PermutedMeans =
    (A : Type 0) (list other : List A) → Permuted list other
    → (length list ≡ length other) × ((a : A) → Member a list ↔ Member a other)

pub record WordsMean : Type 1 where
  pub first : FirstMeans
  pub nothing_refused : NothingRefused
  pub each : EachMeans
  pub member : MemberMeans
  pub permuted : PermutedMeans
