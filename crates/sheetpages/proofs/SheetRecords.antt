-- Records written in bytes come back, and the limits hold.
use Prim.Native.Nat.{ℕ, zero, suc, ◌+◌, ◌*◌, ◌/◌, ◌%◌, ◌≤◌, ◌<◌}
use native.Mathlib.Omega.{arith}
use native.Mathlib.Nat.{zero-add, div-add-mod', mod-lt, div-lt_iff_lt-mul}
use mathlib.Core.Path.{◌≡◌, refl, ap, ◌∙◌}
use mathlib.Core.Bool.{Bool, true, false, not, ◌||◌, ◌&&◌}
use mathlib.Core.List.{List, [], ◌∷◌, ◌++◌}
use lib.Dec.{eqb, ltb}
use lib.ListN.{length}
use borrow.Author.Tests.{ne_eqb, lt-ltb, le-ltb, lt-leb, eqb-true, not-true}
use Rattle.laws.proofs.Tests.{and_true}
use Rattle.sheet.specs.Reader.{read_of}
use Rattle.laws.specs.Checks.{Check}
use Rattle.laws.proofs.Checks.{failing_behind}
use Rattle.quantities.specs.Paper.{Paper, paper}
use Rattle.quantities.specs.Checks.{check}
use Rattle.records.specs.Bytes.{number_after, field}
use Rattle.records.specs.Records.{record_length, is_row_kind, row_fields, record_on, is_end}
use Rattle.records.specs.declared.Record.TheVariants.{Board, Row}
use Rattle.records.proofs.Records.{length_row}
use Rattle.records.proofs.Parts.{on_board, on_row, on_end}
use Rattle.sheetpages.specs.Sheets.{
  byte,
  behind,
  priority_at,
  tick_of,
  board_order,
  later_order,
  row_record_order,
  common_order,
  AllPass,
  RowsPass,
  WholeWith,
  TurnedAway,
  after_rows,
}
use Rattle.sheetpages.specs.SheetRecords.{
  in_two,
  in_four,
  board_bytes,
  row_bytes,
  end_bytes,
  Bytes,
  RowFits,
  RecordsComeBack,
  PartsTold,
  one_row,
  PrioritiesTo999,
  RowRecordsTo32,
  rows_from,
  ThirtyTwoTaken,
}
use Rattle.sheetpages.proofs.Sheets.{sheet_turned_away, sheet_taken}

-- The bytes of a number are bytes, and give the number.
module _ (n : ℕ) where
  high : n < 65536 → n / 256 < 256
  high h = (div-lt_iff_lt-mul {k = 256} {x = n} {y = 256} (omega arith)).1 (omega arith)

  low : n % 256 < 256
  low = mod-lt n (omega arith)

  above : n < 4294967296 → n / 65536 < 65536
  above h = (div-lt_iff_lt-mul {k = 65536} {x = n} {y = 65536} (omega arith)).1 (omega arith)

  below : n % 65536 < 65536
  below = mod-lt n (omega arith)

  two_back : n / 256 * 256 + n % 256 ≡ n
  two_back = div-add-mod' n 256

  number_two : number_after 0 (in_two n) ≡ n
  unfolding number_after
  number_two = omega (arith, two_back)

number_four : (n : ℕ) → number_after 0 (in_four n) ≡ n
unfolding number_after
number_four n = omega (arith, two_back (n / 65536), two_back (n % 65536), div-add-mod' n 65536)

board_back : (cores tick : ℕ) (rest : List ℕ)
    → record_on (board_bytes cores tick ++ rest) ≡ Board cores (record { 0 = tick })
unfolding field number_after
board_back cores tick rest =
    on_board (board_bytes cores tick ++ rest) refl (omega arith) ∙ rw (number_two tick, zero-add) refl

row_back : (label priority c d t : ℕ) (rest : List ℕ)
    → row_fields (row_bytes label priority c d t ++ rest)
    ≡ record { label = label; priority = priority; c = record { 0 = c }; d = record { 0 = d }; t = record { 0 = t } }
unfolding row_fields field
row_back label priority c d t rest =
    rw (number_two label, number_two priority, number_four c, number_four d, number_four t) refl

two_bytes_lem : (n : ℕ) (rest : List ℕ) → n < 65536 → Bytes rest → Bytes (in_two n ++ rest)
two_bytes_lem n rest h more = (high n h, (low n, more))

four_bytes_lem : (n : ℕ) (rest : List ℕ) → n < 4294967296 → Bytes rest → Bytes (in_four n ++ rest)
four_bytes_lem n rest h more =
    two_bytes_lem (n / 65536) (in_two (n % 65536) ++ rest) (above n h) (two_bytes_lem (n % 65536) rest (below n) more)

row_in_bytes : (label priority c d t : ℕ) → RowFits label priority c d t → Bytes (row_bytes label priority c d t)
row_in_bytes label priority c d t fits =
    let last : Bytes (in_four t) = four_bytes_lem t [] fits.t_fits tt in
    let times = four_bytes_lem c (in_four d ++ in_four t) fits.c_fits (four_bytes_lem d (in_four t) fits.d_fits last) in
    let rest = in_four c ++ (in_four d ++ in_four t) in
    (omega arith, two_bytes_lem label (in_two priority ++ rest) fits.label_fits (two_bytes_lem priority rest fits.priority_fits times))

pub records_come_back : RecordsComeBack
unfolding field number_after is_row_kind
records_come_back =
    record {
      board =
          λ cores tick rest fits. (
            (omega arith, (fits.cores_fit, two_bytes_lem tick [] fits.tick_fits tt)),
            board_back cores tick rest,
          );
      row =
          λ label priority c d t rest fits. (
            row_in_bytes label priority c d t fits,
            on_row (row_bytes label priority c d t ++ rest) refl (omega (arith, length_row)) ∙ ap Row (row_back label priority c d t rest),
          );
      end =
          λ count rest fits. (
            (omega arith, (fits, tt)),
            on_end (end_bytes count ++ rest) refl (omega arith) ∙ rw zero-add refl,
          );
    }

-- A sheet of one row: every check but 16 passes.
module _ (cores tick label priority c d t : ℕ) (some : 0 < tick) where
  abbrev sheet : List ℕ
  sheet = one_row cores tick label priority c d t

  board_passes : AllPass (board_order sheet)
  board_passes =
      let is = ne_eqb (tick_of sheet) 0 (λ (e : tick_of sheet ≡ 0). omega (arith, two_back tick)) in
      (refl, (refl, (refl, (refl, (is, tt)))))

  one_row_taken : 1 ≤ priority → priority ≤ 999 → WholeWith sheet 1
  one_row_taken filled in_range =
      let p = priority_at sheet 4 in
      let is : p ≡ priority = two_back priority in
      let permitted : (eqb p 0 || ltb 999 p) ≡ false =
      rw (ne_eqb p 0 (λ (e : p ≡ 0). omega arith), le-ltb 999 p (omega arith)) refl in
      record {
        rows_pass = (board_passes, (refl, (refl, (refl, (refl, (refl, (permitted, (refl, tt))))))), refl);
        end_passes = (refl, (refl, (refl, (refl, (refl, (refl, tt))))));
        is_end_holds = refl;
      }

  module _ (fails : (eqb (priority_at sheet 4) 0 || ltb 999 (priority_at sheet 4)) ≡ true) where
    one_row_refused : TurnedAway 16 4 (read_of sheet)
    one_row_refused =
        let before = common_order sheet 4 false ++ (check 14 4 false ∷ []) in
        sheet_turned_away sheet (paper 16 4)
        (after_rows 0 board_passes
        (failing_behind before _ (paper 16 4) _ fails (refl, (refl, (refl, (refl, (refl, tt)))))))

pub priorities_to_999 : PrioritiesTo999
priorities_to_999 =
    record {
      taken =
          λ cores tick label priority c d t board row some filled in_range.
          sheet_taken (one_row cores tick label priority c d t) 1
          (one_row_taken cores tick label priority c d t some filled in_range);
      above =
          λ cores tick label priority c d t board row some large.
          let p = priority / 256 * 256 + priority % 256 in
          let is : p ≡ priority = two_back priority in
          let more : (eqb p 0 || ltb 999 p) ≡ true =
          rw (ne_eqb p 0 (λ (e : p ≡ 0). omega arith), lt-ltb 999 p (omega arith)) refl in
          one_row_refused cores tick label priority c d t some more;
      not_filled = λ cores tick label c d t board row some. one_row_refused cores tick label 0 c d t some refl;
    }

pub row_records_to_32 : RowRecordsTo32
row_records_to_32 sheet passed kind long =
    let checks : later_order sheet 32 ≡ common_order sheet 548 (eqb (byte sheet 548) 1) ++ row_record_order sheet 32 =
    rw kind refl in
    let byte_there = lt-leb (length sheet) 548 (omega arith) in
    let fits = le-ltb (length sheet) 565 long in
    sheet_turned_away sheet (paper 14 548)
    (after_rows 32 passed
    (record {
      before = common_order sheet 548 (eqb (byte sheet 548) 1);
      after = _;
      stands = checks;
      passed = (byte_there, (rw kind refl, (rw kind refl, (rw kind fits, tt))));
    }))

-- The checks of the board record and of this many rows as one test, which is computed.
passes : List (Check Paper) → Bool
passes [] = true
passes (one ∷ checks) = not one.fails && passes checks

passes_all : (checks : List (Check Paper)) → passes checks ≡ true → AllPass checks
unfolding passes
passes_all [] e = tt
passes_all (one ∷ checks) e =
    let both = and_true (not one.fails) (passes checks) e in
    (not-true one.fails both.0, passes_all checks both.1)

all_rows_pass : List ℕ → ℕ → Bool
all_rows_pass sheet zero = passes (board_order sheet)
all_rows_pass sheet (suc n) = all_rows_pass sheet n && (passes (later_order sheet n) && eqb (byte sheet (behind n)) 2)

rows_pass_all : (sheet : List ℕ) (n : ℕ) → all_rows_pass sheet n ≡ true → RowsPass sheet n
unfolding all_rows_pass
rows_pass_all sheet zero e = passes_all (board_order sheet) e
rows_pass_all sheet (suc n) e =
    let both = and_true (all_rows_pass sheet n) (passes (later_order sheet n) && eqb (byte sheet (behind n)) 2) e in
    let here = and_true (passes (later_order sheet n)) (eqb (byte sheet (behind n)) 2) both.1 in (
      rows_pass_all sheet n both.0,
      passes_all (later_order sheet n) here.0,
      eqb-true (byte sheet (behind n)) 2 here.1,
    )

pub thirty_two_taken : ThirtyTwoTaken
unfolding passes all_rows_pass
thirty_two_taken =
    let full = board_bytes 1 1 ++ (rows_from 1 32 ++ end_bytes 32) in (
      refl,
      record {
        rows_pass = rows_pass_all full 32 refl;
        end_passes = passes_all (later_order full 32) refl;
        is_end_holds = refl;
      },
    )

pub parts_told : PartsTold
unfolding record_on record_length is_end
parts_told =
    record {
      no_byte = refl;
      unknown = λ kind rest one two three.
          rw (ne_eqb kind 1 one, ne_eqb kind 2 two, ne_eqb kind 3 three) refl;
      cut_board = λ rest short. rw (lt-ltb (suc (length rest)) 4 (omega (arith, short))) refl;
      cut_row = λ rest short. rw (lt-ltb (suc (length rest)) 17 (omega (arith, short))) refl;
      cut_end = refl;
      size_of_board = λ rest. refl;
      size_of_row = λ rest. refl;
      size_of_end = λ rest. refl;
      no_size = refl;
      size_of_unknown = λ kind rest one two three.
          rw (ne_eqb kind 1 one, ne_eqb kind 2 two, ne_eqb kind 3 three) refl;
      the_end = λ count. refl;
      no_end = λ fields cores tick kind. (refl, refl, refl, refl, refl);
    }
