-- Row lists are taken and turned away as specs/Lists.antt says.
use Prim.Native.Nat.{ℕ, zero, suc}
use native.Mathlib.Omega.{arith}
use mathlib.Core.Path.{◌≡◌, refl, ap, ◌∙◌}
use mathlib.Core.List.{List, [], ◌∷◌, ◌++◌}
use mathlib.Core.Option.{Option, none, some}
use Rattle.laws.proofs.Lists.{each_map}
use Rattle.laws.proofs.Tests.{not_one}
use Rattle.quantities.specs.declared.Row.{Row}
use Rattle.quantities.specs.declared.Fault.{Fault}
use Rattle.quantities.specs.Row.{SoundRow, row_of}
use Rattle.quantities.specs.Paper.{Paper, paper, fault_paper}
use Rattle.laws.specs.Checks.{Check, first_failing, FirstFailing}
use Rattle.quantities.specs.Checks.{row_checks, rows_checks, list_checks, room_checks, fault_from}
use Rattle.quantities.specs.Checks.{is_last, SoundList, list_fault}
use Rattle.laws.proofs.Checks.{first_found}
use Rattle.quantities.proofs.Sound.{sound_list_means}
use Rattle.quantities.proofs.SoundRows.{sound_rows_each, each_sound_rows}
use Rattle.quantities.proofs.Paper.{fault_first}
use Rattle.quantities.proofs.Checks.{list_fault_many_rows, list_fault_many_cores, list_fault_rows, row_fault_6, rows_fault_here}
use Rattle.windows.specs.declared.Answer.TheVariants.{Refused}
use Rattle.windows.specs.Answer.{Judged, judged, answer_paper}
use Rattle.windows.proofs.Into.{refused_fault}
use Rattle.windows.proofs.Judgement.{judged_faulty}
use Rattle.rowpages.specs.Lists.{
  rows_order,
  list_order,
  lent_order,
  fault_at,
  TurnedAwayBy,
  NotRefused,
  FaultyListTurnedAway,
  RefusedListHasFault,
  RowInRange,
  ListInRange,
  TakenExactly,
  CoresTo16,
  RowsTo32,
  GapsTo1000000,
}

-- The order on the page is the definitions' own.
pub rows_order_lem : (place : ℕ) (rows : List Row) → rows_order place rows ≡ rows_checks place rows
unfolding row_checks rows_checks
rows_order_lem place [] = refl
rows_order_lem place (row ∷ rows) =
    ap (λ (later : List (Check Paper)). row_checks place (is_last rows) row ++ later) (rows_order_lem (suc place) rows)

pub list_order_lem : (cores : ℕ) (rows : List Row) → list_order cores rows ≡ list_checks cores rows
unfolding list_checks
list_order_lem cores rows = rw (rows_order_lem 1 rows)

pub lent_order_lem : (cores entries : ℕ) (rows : List Row)
    → lent_order cores entries rows ≡ list_checks cores rows ++ room_checks entries rows
unfolding room_checks
lent_order_lem cores entries rows =
    ap (λ (checks : List (Check Paper)). checks ++ room_checks entries rows) (list_order_lem cores rows)

-- a failed check as a fault, and that fault on paper
pub fault_from_lem : (one : Paper) → fault_from (some one) ≡ some (fault_at one.number one.place)
unfolding fault_from
fault_from_lem one = at one.number one.place
  where
    at : (number place : ℕ) → fault_from (some (paper number place)) ≡ some (fault_at number place)
    at number zero = refl
    at number (suc p) = refl

pub fault_on_paper : (number place : ℕ) → fault_paper (fault_at number place) ≡ paper number place
unfolding fault_paper
fault_on_paper number zero = refl
fault_on_paper number (suc p) = refl

-- the fault of checks of which one is the first that fails
pub fault_of_first : (checks : List (Check Paper)) (one : Paper) → FirstFailing checks one
    → fault_from (first_failing checks) ≡ some (fault_at one.number one.place)
fault_of_first checks one first = ap fault_from (first_found checks one first) ∙ fault_from_lem one

-- an answer with that fault is turned away by that check
pub turned_by : (one : Paper) (j : Judged)
    → j ≡ record { answer = Refused (fault_at one.number one.place); bounds = [] } → TurnedAwayBy one j
unfolding answer_paper
turned_by one j e =
    record {
      answers = ap (λ (k : Judged). k.answer) e;
      on_paper = ap (λ (k : Judged). answer_paper k.answer) e ∙ fault_on_paper one.number one.place;
      no_bounds = ap (λ (k : Judged). k.bounds) e;
    }

pub faulty_list_turned_away : FaultyListTurnedAway
unfolding list_fault
faulty_list_turned_away cores rows one first =
    let first' = rw (list_order_lem cores rows) at first in
    turned_by one (judged cores rows)
    (judged_faulty cores rows (fault_at one.number one.place) (fault_of_first (list_checks cores rows) one first'))

pub refused_list_has_fault : RefusedListHasFault
unfolding judged list_fault
refused_list_has_fault cores rows fault e =
    rw (list_order_lem cores rows)
    (fault_first (list_checks cores rows) fault (refused_fault (list_fault cores rows) cores rows fault e))

-- In range is what the definitions call sound.
row_sound : (row : Row) → RowInRange row → SoundRow row
row_sound row r =
    record { some_work = r.some_work; in_time = r.in_time; in_gap = r.in_gap; short_gap = r.short_gap }

row_in_range : (row : Row) → SoundRow row → RowInRange row
row_in_range row r =
    record { some_work = r.some_work; in_time = r.in_time; in_gap = r.in_gap; short_gap = r.short_gap }

pub sound_in_range : (cores : ℕ) (rows : List Row) → ListInRange cores rows → SoundList cores rows
sound_in_range cores rows r =
    record {
      some_rows = r.rows_in_range.some_rows;
      few_rows = r.rows_in_range.few_rows;
      some_cores = r.some_cores;
      few_cores = r.few_cores;
      sound_rows = each_sound_rows rows (each_map row_sound rows r.rows_in_range.each);
    }

pub in_range_sound : (cores : ℕ) (rows : List Row) → SoundList cores rows → ListInRange cores rows
in_range_sound cores rows s =
    record {
      some_cores = s.some_cores;
      few_cores = s.few_cores;
      rows_in_range =
          record {
            some_rows = s.some_rows;
            few_rows = s.few_rows;
            each = each_map row_in_range rows (sound_rows_each rows s.sound_rows);
          };
    }

-- a sound list has no fault, and a list without is sound
pub in_range_taken : (cores : ℕ) (rows : List Row) → ListInRange cores rows → NotRefused (judged cores rows).answer
unfolding judged
in_range_taken cores rows r fault e =
    let found = refused_fault (list_fault cores rows) cores rows fault e in
    let sound = (sound_list_means cores rows).1 (sound_in_range cores rows r) in
    not_one cc

pub taken_exactly : TakenExactly
taken_exactly cores rows = (by_fault (list_fault cores rows) refl, in_range_taken cores rows)
  where
    by_fault : (found : Option Fault) → list_fault cores rows ≡ found → NotRefused (judged cores rows).answer → ListInRange cores rows
    by_fault none q taken = in_range_sound cores rows ((sound_list_means cores rows).0 q)
    by_fault (some fault) q taken =
        absurd (taken fault (ap (λ (j : Judged). j.answer) (judged_faulty cores rows fault q)))

-- The limits.
pub cores_to_16 : CoresTo16
unfolding answer_paper fault_paper
cores_to_16 rows r = (
  in_range_taken 16 rows (record { some_cores = omega arith; few_cores = omega arith; rows_in_range = r }),
  rw (judged_faulty 17 rows (fault_at 2 0)
      (list_fault_many_cores 17 rows (λ e. omega arith) r.few_rows (λ e. omega arith) (omega arith))) refl,
)

pub rows_to_32 : RowsTo32
unfolding answer_paper fault_paper
rows_to_32 cores rows one few each = (
  λ many. in_range_taken cores rows
      (record {
        some_cores = one;
        few_cores = few;
        rows_in_range = record { some_rows = omega arith; few_rows = omega arith; each = each };
      }),
  λ many. rw (judged_faulty cores rows (fault_at 1 0)
      (list_fault_many_rows cores rows (λ e. omega arith) (omega arith))) refl,
)

pub gaps_to_1000000 : GapsTo1000000
unfolding answer_paper fault_paper
gaps_to_1000000 cores c d one few work in_time in_gap = (
  in_range_taken cores (row_of c d 1000000 ∷ [])
      (record {
        some_cores = one;
        few_cores = few;
        rows_in_range =
            record {
              some_rows = omega arith;
              few_rows = omega arith;
              each = (record { some_work = work; in_time = in_time; in_gap = in_gap; short_gap = omega arith }, tt);
            };
      }),
  let long = row_of c d 1000001 in
      rw (judged_faulty cores (long ∷ []) (fault_at 6 1)
      (list_fault_rows cores (long ∷ []) (λ e. omega arith) (omega arith) (λ e. omega arith) few
      ∙ rows_fault_here 1 long [] (fault_at 6 1)
      (row_fault_6 1 (is_last []) long (omega arith) (λ e. omega arith) in_time (omega arith) (omega arith)))) refl,
)
