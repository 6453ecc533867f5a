-- The order sheet in bytes holds of the reader: taken or turned away, and what is read.
use Prim.Native.Nat.{ℕ, zero, suc, ◌+◌, ◌-◌, ◌≤◌, ◌<◌}
use native.Mathlib.Omega.{arith}
use native.Mathlib.Decide.{ℕ_discrete}
use mathlib.Core.Path.{◌≡◌, refl, sym, ap, subst, ◌∙◌}
use mathlib.Core.Logic.{◌⊎◌, inl, inr, ⊎_elim}
use mathlib.Core.Bool.{Bool, true, false, ◌||◌}
use mathlib.Core.List.{List, [], ◌∷◌}
use mathlib.Core.Option.{Option, none, some}
use lib.Dec.{eqb, leb, ltb}
use lib.ListN.{length, get_or, take, drop, replicate, length-drop, length-set, take-append-drop}
use lib.Seq.{ext_get_or, drop-append_seam}
use borrow.Author.Tests.{ltb-false, eqb-true, not-false, le-leb, ne_eqb}
use Rattle.laws.specs.Each.{Each}
use Rattle.laws.specs.Permuted.{Permuted, both}
use Rattle.laws.proofs.Lists.{each_at}
use Rattle.laws.proofs.Permuted.{permuted_back}
use Rattle.laws.specs.Checks.{first_failing}
use Rattle.quantities.specs.Paper.{Paper, paper}
use Rattle.quantities.specs.Table.{rows_of, empty_table, with_row}
use Rattle.quantities.specs.declared.Table.{Table}
use Rattle.laws.proofs.Checks.{none_fails, first_failing_lem, failing_behind}
use Rattle.quantities.specs.declared.Micros.{Micros}
use Rattle.records.specs.Records.{is_end}
use Rattle.records.proofs.Parts.{on_end}
use Rattle.entries.specs.Entries.{row_in, no_entry, board_sheet, entries_of, table_with, table_in, table_of, sheet_of, Rising}
use Rattle.sheet.specs.Reader.{no_sheet, new_reading, refused, whole, read_of, verdict_paper}
use Rattle.records.specs.declared.RowFields.{RowFields}
use Rattle.entries.specs.declared.Sheet.{Sheet}
use Rattle.sheet.specs.declared.Outcome.{Outcome}
use Rattle.sheet.proofs.Checks.{sound_not_refused}
use Rattle.sheet.proofs.Checks.{same_refusal}
use Rattle.sheet.proofs.Faults.{verdict_none, verdict_first}
use Rattle.sheet.proofs.Reader.{reads_new, turn_refused, turn_whole}
use Rattle.entries.proofs.Order.{rising_permuted}
use Rattle.entries.proofs.Sheets.{entries_of_sheet}
use Rattle.quantities.proofs.Rows.{rows_kept, with_row_fits}
use Rattle.entries.proofs.Tables.{table_rows}
use Rattle.sheetpages.specs.Sheets.{
  byte,
  behind,
  cores_of,
  tick_of,
  board_order,
  end_order,
  later_order,
  AllPass,
  RowsPass,
  FirstFault,
  at_the_board,
  after_rows,
  WholeWith,
  TurnedAway,
  SheetTurnedAway,
  SheetTaken,
  WholeLength,
  TakenSheetIsWhole,
  RefusedSheetHasFault,
  SheetEither,
  NoByteAtTheEnd,
  RowRead,
  RisingPriority,
  SheetRead,
  SheetsRead,
  OneReading,
}
use Rattle.sheetpages.proofs.SheetsChecks.{kind_of_part, board_verdict}
use Rattle.sheetpages.proofs.SheetsRows.{Past, reading_of, past, past_count, past_verdict, few_rows, rows_in_ticks}

-- A refused sheet, in the words of the page.
away : (number place : ℕ) (outcome : Outcome) → refused number place ≡ outcome → TurnedAway number place outcome
unfolding refused no_sheet board_sheet verdict_paper entries_of table_of table_in table_with empty_table rows_of
away number place outcome e =
    rw (← e) (record { answers = refl; on_paper = refl; no_sheet_holds = refl; no_entries = refl; no_rows = refl })

pub sheet_turned_away : SheetTurnedAway
sheet_turned_away sheet one (at_the_board first) =
    let verdict = sym (board_verdict sheet) ∙ verdict_first (board_order sheet) one first in
    away one.number one.place (read_of sheet)
    (turn_refused sheet new_reading 0 (reads_new sheet) one.number one.place verdict)
sheet_turned_away sheet one (after_rows n passed first) =
    let before = past sheet n passed in
    let verdict = sym (past_verdict sheet n before) ∙ verdict_first (later_order sheet n) one first in
    away one.number one.place (read_of sheet)
    (turn_refused sheet (reading_of sheet before.entries) (behind n) before.reads one.number one.place
    verdict)

-- an end record that fails no check is the sheet's last two bytes
end_long : (sheet : List ℕ) (n : ℕ) → WholeWith sheet n → length sheet ≡ behind n + 2
end_long sheet n w =
    let fits : ltb (length sheet) (behind n + 1 + 1) ≡ false = rw w.is_end_holds at w.end_passes.1.1.1.0 in
    let ends : AllPass (end_order sheet n) = rw w.is_end_holds at w.end_passes.1.1.1.1 in
    let long = ltb-false (length sheet) (behind n + 1 + 1) fits in
    let last = ltb-false (behind n + 2) (length sheet) ends.1.0 in
    omega arith

pub whole_length : WholeLength
whole_length sheet n w =
    let long = end_long sheet n w in
    let few = few_rows sheet n w.rows_pass in
    (omega arith, omega arith, omega arith)

-- The answer of a sheet without fault is the sheet of the entries that were read.
answer_whole : (sheet : List ℕ) (n : ℕ) (w : WholeWith sheet n)
    → whole (reading_of sheet (past sheet n w.rows_pass).entries).sheet ≡ read_of sheet
unfolding is_end
answer_whole sheet n w =
    let before = past sheet n w.rows_pass in
    let part = drop (behind n) sheet in
    let long : 2 ≤ length part = omega (arith, end_long sheet n w, length-drop (behind n) sheet) in
    let on = on_end part (kind_of_part sheet (behind n) ∙ w.is_end_holds) long in
    let sound = sym (past_verdict sheet n before) ∙ verdict_none (later_order sheet n) w.end_passes in
    turn_whole sheet (reading_of sheet before.entries) (behind n) before.reads sound (ap is_end on)

pub sheet_taken : SheetTaken
unfolding whole
sheet_taken sheet n w = ap (λ (o : Outcome). o.verdict) (sym (answer_whole sheet n w))

-- Every sheet: its records fail no check, one after the other, until one fails or the end record is taken.
module _ (sheet : List ℕ) where
  abbrev Either : Type 0
  Either = ((n : ℕ) × WholeWith sheet n) ⊎ ((one : Paper) × FirstFault sheet one)

  third : (a b c : Bool) → (a || b || c) ≡ true → a ≡ false → b ≡ false → c ≡ true
  third a b c any p q = rw (p, q) at any

  -- a record that fails no check and is no row is an end
  end_here : (n : ℕ) → RowsPass sheet n → AllPass (later_order sheet n) → (byte sheet (behind n) ≡ 2 → ⊥)
      → WholeWith sheet n
  end_here n passed all no_row =
      let kind = byte sheet (behind n) in
      let a_kind = not-false (eqb kind 1 || eqb kind 2 || eqb kind 3) all.1.0 in
      record {
        rows_pass = passed;
        end_passes = all;
        is_end_holds =
            eqb-true kind 3
            (third (eqb kind 1) (eqb kind 2) (eqb kind 3) a_kind all.1.1.0 (ne_eqb kind 2 no_row));
      }

  either_from : (limit n : ℕ) → 33 ≤ n + limit → RowsPass sheet n → Either
  either_from zero n enough passed = absurd (omega (arith, few_rows sheet n passed))
  either_from (suc limit) n enough passed =
      go (first_failing (later_order sheet n)) refl (either_from limit (suc n) (omega arith))
    where
      go : (found : Option Paper) → first_failing (later_order sheet n) ≡ found
          → (RowsPass sheet (suc n) → Either) → Either
      go none q later =
          let all = none_fails (later_order sheet n) q in
          elim (ℕ_discrete (byte sheet (behind n)) 2) [
            | yes row ↦ later (passed, all, row)
            | no no_row ↦ inl (n, end_here n passed all no_row)
          ]
      go (some one) q later = inr (one, after_rows n passed (first_failing_lem (later_order sheet n) one q))

  either : (found : Option Paper) → first_failing (board_order sheet) ≡ found → Either
  either none q = either_from 33 0 (omega arith) (none_fails (board_order sheet) q)
  either (some one) q = inr (one, at_the_board (first_failing_lem (board_order sheet) one q))

pub sheet_either : SheetEither
sheet_either sheet = either sheet (first_failing (board_order sheet)) refl

pub taken_sheet_is_whole : TakenSheetIsWhole
taken_sheet_is_whole sheet sound = ⊎_elim (λ whole. whole) (λ fault. absurd (not_both fault)) (sheet_either sheet)
  where
    not_both : (one : Paper) × FirstFault sheet one → ⊥
    not_both (one, fault) =
        sound_not_refused one.number one.place (sym (sheet_turned_away sheet one fault).answers ∙ sound)

pub refused_sheet_has_fault : RefusedSheetHasFault
refused_sheet_has_fault sheet number place e = go (sheet_either sheet)
  where
    go : Either sheet → (one : Paper) × FirstFault sheet one × (one.number ≡ number) × (one.place ≡ place)
    go (inl (n, w)) = absurd (sound_not_refused number place (sym e ∙ sheet_taken sheet n w))
    go (inr (one, fault)) =
        let answers = (sheet_turned_away sheet one fault).answers in
        let same = same_refusal one.number one.place number place (sym answers ∙ e) in
        (one, fault, same.0, same.1)

-- Where no byte stands, the first check of the record fails.
pub no_byte_at_the_end : NoByteAtTheEnd
no_byte_at_the_end =
    record {
      behind_rows =
          λ sheet n passed ends.
          let none : leb (length sheet) (behind n) ≡ true = le-leb (length sheet) (behind n) (omega arith) in
          sheet_turned_away sheet (paper 11 (length sheet))
          (after_rows n passed (failing_behind [] _ (paper 11 (length sheet)) _ none tt));
      empty =
          sheet_turned_away [] (paper 11 0)
          (at_the_board (record { before = []; after = _; stands = refl; passed = tt }));
    }

-- Entries that rise, in the words of the page and in the reader's own.
pub rising_by_index : (entries : List RowFields) → Rising entries → RisingPriority entries
rising_by_index [] r i j h l = absurd (omega arith)
rising_by_index (x ∷ xs) r i zero h l = absurd (omega arith)
rising_by_index (x ∷ xs) r zero (suc j) h l =
    each_at (λ y. x.priority < y.priority) xs j no_entry (omega arith) r.0
rising_by_index (x ∷ xs) r (suc i) (suc j) h l = rising_by_index xs r.1 i j (omega arith) (omega arith)

each_by_index : (P : RowFields → Type 0) (entries : List RowFields)
    → ((j : ℕ) → j < length entries → P (get_or entries j no_entry)) → Each P entries
each_by_index P [] f = tt
each_by_index P (x ∷ xs) f = (f zero (omega arith), each_by_index P xs (λ j h. f (suc j) (omega arith)))

pub index_rising : (entries : List RowFields) → RisingPriority entries → Rising entries
index_rising [] r = tt
index_rising (x ∷ xs) r = (
  each_by_index (λ y. x.priority < y.priority) xs (λ j h. r zero (suc j) (omega arith) (omega arith)),
  index_rising xs (λ i j h l. r (suc i) (suc j) (omega arith) (omega arith)),
)

-- A table of this many rows, which has room for 32.
record Filled (table : Table) (n : ℕ) : Type 0 where
  count : table.count ≡ n
  full : length table.rows ≡ 32

table_with_filled : (tick : Micros) (table : Table) (n : ℕ) (entries : List RowFields) → Filled table n → n + length entries ≤ 32
    → Filled (table_with tick table entries) (n + length entries)
unfolding table_with
table_with_filled tick table n [] filled h = record { count = omega (arith, filled.count); full = filled.full }
table_with_filled tick table n (entry ∷ entries) filled h =
    let is = with_row_fits table (row_in tick entry) (omega (arith, filled.count)) in
    let more : Filled (with_row table (row_in tick entry)) (n + 1) =
    rw is (record { count = omega (arith, filled.count); full = length-set table.rows table.count (row_in tick entry) ∙ filled.full }) in
    let all = table_with_filled tick (with_row table (row_in tick entry)) (n + 1) entries more (omega arith) in
    record { count = omega (arith, all.count); full = all.full }

table_filled : (cores : ℕ) (tick : Micros) (entries : List RowFields) → length entries ≤ 32
    → Filled (table_of (sheet_of cores tick entries)) (length entries)
unfolding table_of table_in empty_table sheet_of
table_filled cores tick entries few =
    let empty : Filled empty_table 0 = record { count = refl; full = refl } in
    let all = table_with_filled tick empty_table 0 entries empty (omega arith) in
    rw (entries_of_sheet cores tick entries) (record { count = omega (arith, all.count); full = all.full })

-- What is read of a sheet without fault: the sheet of the entries behind its rows.
entries_read : (sheet : List ℕ) (n : ℕ) → RowsPass sheet n → (before : Past sheet n)
    → SheetRead sheet n (reading_of sheet before.entries).sheet
unfolding sheet_of entries_of
entries_read sheet n passed before =
    let entries = before.entries in
    let tick : Micros = record { 0 = tick_of sheet } in
    let count = past_count sheet n before in
    let few : length entries ≤ 32 = omega (arith, count, few_rows sheet n passed) in
    let same = entries_of_sheet (cores_of sheet) tick entries in
    let rows = table_rows (cores_of sheet) tick entries few in
    let in_ticks = rows_in_ticks (tick_of sheet) entries before.some_tick in
    let given : Table = table_of (sheet_of (cores_of sheet) tick entries) in
    let size : Filled given (length entries) = table_filled (cores_of sheet) tick entries few in
    let kept = rows_kept given (omega (arith, size.full, size.count)) in
    let first : take n given.rows ≡ rows_of given =
    ap (λ (m : ℕ). take m given.rows) (sym (size.count ∙ count)) ∙ sym kept in
    record {
      in_sheet_order = before.in_order;
      as_many = before.as_many;
      each_row = before.each_row;
      each_once = rw same before.each_once;
      rising = rw same (rising_by_index entries before.rise);
      counted = rw same count;
      count = count;
      listed = ap (λ (m : ℕ). take m (sheet_of (cores_of sheet) tick entries).entries) count;
      blank =
          ap (λ (m : ℕ). drop m (sheet_of (cores_of sheet) tick entries).entries) (sym count)
          ∙ drop-append_seam entries (replicate (32 - length entries) no_entry)
          ∙ ap (λ (m : ℕ). replicate (32 - m) no_entry) count;
      table = rw (same, rows) in_ticks;
      table_count = size.count ∙ count;
      table_rows = rw (same, first, rows) in_ticks;
      cores = refl;
      tick = refl;
    }

pub sheets_read : SheetsRead read_of
unfolding whole
sheets_read sheet n w =
    let before = past sheet n w.rows_pass in
    let answer = ap (λ (o : Outcome). o.sheet) (answer_whole sheet n w) in
    (sheet_taken sheet n w, subst (SheetRead sheet n) answer (entries_read sheet n w.rows_pass before))

-- A row record is read in one way.
one_entry : (sheet : List ℕ) (place : ℕ) (x y : RowFields) → RowRead sheet place x → RowRead sheet place y → x ≡ y
one_entry sheet place x y a b =
    same x.label y.label x.priority y.priority x.c.0 y.c.0 x.d.0 y.d.0 x.t.0 y.t.0
    (a.label ∙ sym b.label) (a.priority ∙ sym b.priority) (a.c ∙ sym b.c) (a.d ∙ sym b.d) (a.t ∙ sym b.t)
  where
    fields : (label priority c d t : ℕ) → RowFields
    fields label priority c d t =
        record { label = label; priority = priority; c = record { 0 = c }; d = record { 0 = d }; t = record { 0 = t } }

    same : (l l' p p' c c' d d' t t' : ℕ) → l ≡ l' → p ≡ p' → c ≡ c' → d ≡ d' → t ≡ t'
        → fields l p c d t ≡ fields l' p' c' d' t'
    same l l' p p' c c' d d' t t' a b e f g = rw (a, b, e, f, g) refl

pub one_reading : OneReading
one_reading sheet n a b read other =
    let l = read.as_many in
    let k = other.as_many in
    let records : read.in_sheet_order ≡ other.in_sheet_order =
    ext_get_or no_entry read.in_sheet_order other.in_sheet_order (omega arith)
    (λ i h. one_entry sheet (behind i) _ _ (read.each_row i (omega arith)) (other.each_row i (omega arith))) in
    let others : Permuted read.in_sheet_order (entries_of b) = rw records other.each_once in
    let together : Permuted (entries_of a) (entries_of b) = both (permuted_back read.each_once) others in
    let up = index_rising (entries_of a) read.rising in
    let rises = index_rising (entries_of b) other.rising in
    let same = rising_permuted (entries_of a) (entries_of b) up rises together in
    let first : take n a.entries ≡ take n b.entries = sym read.listed ∙ same ∙ other.listed in
    let later : drop n a.entries ≡ drop n b.entries = read.blank ∙ sym other.blank in
    let entries : a.entries ≡ b.entries =
    sym (take-append-drop n a.entries) ∙ rw (first, later) (take-append-drop n b.entries) in
    one_sheet a.cores b.cores a.tick.0 b.tick.0 a.count b.count a.entries b.entries
    (read.cores ∙ sym other.cores) (read.tick ∙ sym other.tick) (read.count ∙ sym other.count) entries
  where
    one_sheet : (cores cores' tick tick' count count' : ℕ) (entries entries' : List RowFields)
        → cores ≡ cores' → tick ≡ tick' → count ≡ count' → entries ≡ entries'
        → ◌≡◌ {A = Sheet}
        (record { cores = cores; tick = record { 0 = tick }; count = count; entries = entries })
        (record { cores = cores'; tick = record { 0 = tick' }; count = count'; entries = entries' })
    one_sheet cores cores' tick tick' count count' entries entries' c t n e = rw (c, t, n, e) refl
