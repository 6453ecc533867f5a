-- Bounds: formulas (5) to (9) and (12) of document 000, as document 01 has them, and the answer they make.
use Rattle.std.specs.Prelude.{ℕ, zero, suc, ◌+◌, ◌-◌, ◌*◌, ◌/◌, ◌%◌, ◌≤◌, ◌<◌, min, ◌≡◌, ◌⊎◌, ◌↔◌, Bool, true, false, cond, List, length, get_or}
use Rattle.quantities.specs.declared.Row.{Row}
use Rattle.quantities.specs.Row.{no_row}
use Rattle.quantities.specs.Paper.{paper}
use Rattle.windows.specs.declared.Answer.TheVariants.{Shown, NotShown}
use Rattle.windows.specs.Window.{plain, carry, interference}
use Rattle.windows.specs.Answer.{Judged, answer_paper}
use Rattle.rowpages.specs.Lists.{ListInRange}

-- (5) Without carry-in: W = floor(x / T) · C + min(x mod T, C).
abbrev pub without_carry : Row → (x : ℕ) → ℕ
without_carry row x = x / row.t.0 * row.c.0 + min (x % row.t.0) row.c.0

-- (6) With carry-in: let y = x − C, or 0 if that is negative. W = floor(y / T) · C + C + a, where a is
-- (y mod T) − (T − R), raised to 0 if negative, then lowered to C − 1 if larger. Here `-` stops at 0.
abbrev pub with_carry : Row → (r x : ℕ) → ℕ
with_carry row r x =
    let y = x - row.c.0 in
    y / row.t.0 * row.c.0 + row.c.0 + min (y % row.t.0 - (row.t.0 - r)) (row.c.0 - 1)

-- W of a row with bound r, which is a carry-in row or is not
abbrev pub works_at_most : (carries : Bool) → Row → (r x : ℕ) → ℕ
works_at_most true row r x = with_carry row r x
works_at_most false row r x = without_carry row x

-- Rows and their bounds have indices from 0: the row with index k stands at place k + 1.
abbrev pub row_at : List Row → ℕ → Row
row_at rows k = get_or rows k no_row

abbrev pub bound_at : List ℕ → ℕ → ℕ
bound_at bounds k = get_or bounds k 0

-- (7), (8) Interference is the smaller of W and x − C_k + 1, where C_k is the judged row's own C.
abbrev pub interferes : (own x w : ℕ) → ℕ
interferes own x w = min w (x - own + 1)

-- A choice says of each row, by its index, whether it is a carry-in row. How many of the first n rows are:
abbrev pub carry_in_rows : (carries : ℕ → Bool) → (n : ℕ) → ℕ
carry_in_rows carries zero = 0
carry_in_rows carries (suc n) = carry_in_rows carries n + cond (carries n) 1 0

-- (9) What the interferences of the first n rows add up to under a choice.
abbrev pub added_up : List Row → List ℕ → (own x : ℕ) → (carries : ℕ → Bool) → (n : ℕ) → ℕ
added_up rows bounds own x carries zero = 0
added_up rows bounds own x carries (suc n) =
    added_up rows bounds own x carries n
    + interferes own x (works_at_most (carries n) (row_at rows n) (bound_at bounds n) x)

-- the same for the rows above the row with index k, whose own C counts
abbrev pub total_above : List Row → List ℕ → (k x : ℕ) → (carries : ℕ → Bool) → ℕ
total_above rows bounds k x carries = added_up rows bounds (row_at rows k).c.0 x carries k

-- A window x passes for the row with index k when, for every choice of at most M − 1 rows above k as carry-in
-- rows, the interferences add up to less than M · (x − C_k + 1).
abbrev pub PassesTest : (M : ℕ) → List Row → List ℕ → (k x : ℕ) → Type 0
PassesTest M rows bounds k x =
    (carries : ℕ → Bool) → carry_in_rows carries k ≤ M - 1
    → total_above rows bounds k x carries < M * (x - (row_at rows k).c.0 + 1)

-- The bound of k is the least x that passes, from C_k to D_k.
pub record LeastWindow (M : ℕ) (rows : List Row) (bounds : List ℕ) (k b : ℕ) : Type 0 where
  pub low : (row_at rows k).c.0 ≤ b
  pub high : b ≤ (row_at rows k).d.0
  pub passes : PassesTest M rows bounds k b
  pub first : (y : ℕ) → (row_at rows k).c.0 ≤ y → y < b → PassesTest M rows bounds k y → ⊥

-- No window from C_k up to D_k passes.
abbrev pub NoWindow : (M : ℕ) → List Row → List ℕ → (k : ℕ) → Type 0
NoWindow M rows bounds k =
    (x : ℕ) → (row_at rows k).c.0 ≤ x → x ≤ (row_at rows k).d.0 → PassesTest M rows bounds k x → ⊥

-- Every row is shown: the answer says so, with a bound for each row.
pub record EveryRowShown (rows : List Row) (j : Judged) : Type 0 where
  pub says : j.answer ≡ Shown
  pub each : length j.bounds ≡ length rows

-- The first row not shown, number 8: it stands below those with bounds, the answer names its place, and no
-- window passes for it.
pub record FirstRowNotShown (M : ℕ) (rows : List Row) (j : Judged) : Type 0 where
  pub says : j.answer ≡ NotShown 8 (suc (length j.bounds))
  pub on_paper : answer_paper j.answer ≡ paper 8 (suc (length j.bounds))
  pub stands : length j.bounds < length rows
  pub none : NoWindow M rows j.bounds (length j.bounds)

-- What the rules make of a list: each bound is the least window of its row, down to the last row or to the
-- first row not shown.
pub record JudgedBy (M : ℕ) (rows : List Row) (j : Judged) : Type 0 where
  pub least : (k : ℕ) → k < length j.bounds → LeastWindow M rows j.bounds k (bound_at j.bounds k)
  pub ends : EveryRowShown rows j ⊎ FirstRowNotShown M rows j

-- A judge answers every list in range by the rules.
abbrev pub JudgedRight : (judge : (cores : ℕ) → List Row → Judged) → Type 0
JudgedRight judge =
    (cores : ℕ) (rows : List Row) → ListInRange cores rows → JudgedBy cores rows (judge cores rows)

-- And no two answers to a list are both by the rules.
abbrev pub OneJudgement : Type 0
OneJudgement =
    (cores : ℕ) (rows : List Row) (j k : Judged) → JudgedBy cores rows j → JudgedBy cores rows k → j ≡ k

-- w is the largest number with a property.
pub record IsLargest (P : ℕ → Type 0) (w : ℕ) : Type 0 where
  pub has : P w
  pub no_more : (v : ℕ) → P v → v ≤ w

-- Under some choice of at most M − 1 rows above k as carry-in rows, the interferences add up to this.
pub record AddUpTo (M : ℕ) (rows : List Row) (bounds : List ℕ) (k x sum : ℕ) : Type 0 where
  pub carries : ℕ → Bool
  pub few : carry_in_rows carries k ≤ M - 1
  pub adds_up : total_above rows bounds k x carries ≡ sum

-- Ω, the largest such sum, is there for every window;
abbrev pub LargestTotal : Type 0
LargestTotal =
    (M : ℕ) (rows : List Row) (bounds : List ℕ) (k x : ℕ)
    → (Ω : ℕ) × IsLargest (AddUpTo M rows bounds k x) Ω

-- (12) and that x passes says the same as floor(Ω / M) + C_k ≤ x.
abbrev pub FloorForm : Type 0
FloorForm =
    (M : ℕ) (rows : List Row) (bounds : List ℕ) (k x Ω : ℕ) → 1 ≤ M → (row_at rows k).c.0 ≤ x
    → IsLargest (AddUpTo M rows bounds k x) Ω
    → PassesTest M rows bounds k x ↔ (Ω / M + (row_at rows k).c.0 ≤ x)

-- (12) as document 000 has it, Theorem 1: b is the least solution, from C_k on, of x = floor(Ω / M) + C_k.
pub record LeastSolution (M : ℕ) (rows : List Row) (bounds : List ℕ) (k b : ℕ) : Type 0 where
  pub solves : (Ω : ℕ) → IsLargest (AddUpTo M rows bounds k b) Ω → b ≡ Ω / M + (row_at rows k).c.0
  pub first : (y Ω : ℕ) → (row_at rows k).c.0 ≤ y → y < b → IsLargest (AddUpTo M rows bounds k y) Ω
      → y ≡ Ω / M + (row_at rows k).c.0 → ⊥

-- Each bound is that solution.
abbrev pub BoundsSolve : Type 0
BoundsSolve =
    (cores : ℕ) (rows : List Row) (j : Judged) → ListInRange cores rows → JudgedBy cores rows j
    → (k : ℕ) → k < length j.bounds → LeastSolution cores rows j.bounds k (bound_at j.bounds k)

-- The functions for one row above answer these formulas, in every window.
pub record FormulasAnswered : Type 0 where
  pub without : (row : Row) (x : ℕ) → plain row.c.0 row.t.0 x ≡ without_carry row x
  pub carrying : (row : Row) (r x : ℕ) → carry row.c.0 row.t.0 r x ≡ with_carry row r x
  pub limited : (own x w : ℕ) → interference own x w ≡ interferes own x w
