-- What a sheet that is read to the end is made of.
use Prim.Native.Nat.{ℕ, zero, suc, ◌+◌, ◌≤◌, ◌<◌}
use native.Mathlib.Omega.{arith}
use mathlib.Core.Path.{◌≡◌, refl, sym, ap, ◌∙◌}
use mathlib.Core.Bool.{true, false}
use mathlib.Core.List.{List, [], ◌∷◌, ◌++◌, append_assoc}
use lib.ListN.{length, get_or, take, drop, take-append-drop}
use Rattle.laws.specs.Each.{Each}
use Rattle.quantities.specs.Limits.{row_capacity}
use Rattle.quantities.specs.declared.Micros.{Micros}
use Rattle.records.specs.Records.{board_kind, end_kind, board_length, is_row_kind, kind_on, size_on}
use Rattle.records.specs.Records.{cores_on, tick_on, count_on, row_fields, record_on, OneRecord, RowRecord}
use Rattle.records.specs.declared.Record.{Record}
use Rattle.records.proofs.Records.{Found, nothing, unknown, cut, board, row, end, found, length_end}
use Rattle.records.proofs.Parts.{front_board, front_tick, front_row, front_fields}
use Rattle.entries.specs.Entries.{used, inserted, sheet_of}
use Rattle.sheet.specs.Checks.{misplaced, record_checks, verdict_of}
use Rattle.sheet.specs.Reader.{new_reading, refused, read_of}
use Rattle.sheet.specs.Whole.{joined, entries_on, PriorityInRange, MadeOf}
use Rattle.records.specs.declared.RowFields.{RowFields}
use Rattle.sheet.specs.declared.Reading.{Reading}
use Rattle.sheet.specs.Checks.{Verdict}
use Rattle.std.specs.Prelude.{Ok, Err}
use Rattle.sheet.specs.declared.Outcome.{Outcome}
use Rattle.entries.proofs.Sheets.{entries_of_sheet, count_of_sheet}
use Rattle.sheet.proofs.Checks.{SoundRow, sound_not_refused, missing_not_sound, unknown_not_sound, cut_not_sound, board_misplaced, board_placed, row_misplaced, row_placed, end_misplaced, end_placed, sound_row, sound_end, sound_board}
use Rattle.sheet.proofs.Accepted.{Accepted, acceptable}
use Rattle.sheet.proofs.Reader.{verdict_at, read_from, read_none, read_refused, read_of_lem}
use Rattle.entries.proofs.Order.{length_inserted}
use Rattle.sheet.proofs.Whole.{rows_at, board_fits, rows_placed, row_read, board_read, length_entries}

-- where the answer is sound, so is the verdict on the record that stands there
read_sound : (limit : ℕ) (reading : Reading) (at : ℕ) (part : List ℕ) → (read_from (suc limit) reading at part).verdict ≡ Ok tt
    → verdict_at at reading part ≡ Ok tt
unfolding refused
read_sound limit reading at part s = go (verdict_at at reading part) refl
  where
    go : (v : Verdict) → verdict_at at reading part ≡ v → verdict_at at reading part ≡ Ok tt
    go (Ok _) e = e
    go (Err one) e =
        absurd (sound_not_refused one.number one.place (ap (λ (o : Outcome). o.verdict) (sym (read_refused reading at part limit one.number one.place e)) ∙ s))

-- The rest of a sheet past the board record and some rows, where it is read to the end.
record Rest (tick : Micros) (entries : List RowFields) (part : List ℕ) : Type 0 where
  rows : List (List ℕ)
  end : List ℕ
  made : part ≡ joined rows ++ end
  are_rows : Each RowRecord rows
  accepted : Accepted entries (entries_on rows)
  is_end_holds : OneRecord end_kind end
  counted : count_on end ≡ length rows + length entries

module _ (cores : ℕ) (tick : Micros) where
  -- a row that is accepted, and the rest behind it
  rest_row : (entries : List RowFields) (part : List ℕ) → is_row_kind (kind_on part) ≡ true → size_on part ≤ length part
      → SoundRow (sheet_of cores tick entries) (row_fields part).priority
      → Rest tick (inserted (row_fields part) entries) (drop (size_on part) part) → Rest tick entries part
  unfolding joined entries_on
  rest_row entries part is long fit next =
      let new = row_fields part in
      let front = take (size_on part) part in
      let room : length entries < row_capacity = omega (arith, fit.room, count_of_sheet cores tick entries) in
      let fine : PriorityInRange new = record { filled = fit.filled; in_range = fit.in_range } in
      let free : used (row_fields part).priority entries ≡ false = rw (entries_of_sheet cores tick entries) at fit.unused in
      let taken : Accepted entries (row_fields front ∷ entries_on next.rows) = rw (← front_fields part is long) (room, fine, free, next.accepted) in
      record {
        rows = front ∷ next.rows;
        end = next.end;
        made =
            sym (take-append-drop (size_on part) part)
            ∙ ap (λ (r : List ℕ). front ++ r) next.made
            ∙ sym (append_assoc front (joined next.rows) next.end);
        are_rows = (front_row part is long, next.are_rows);
        accepted = taken;
        is_end_holds = next.is_end_holds;
        counted = omega (arith, next.counted, length_inserted new entries);
      }

  -- one record of the rest: a row that is accepted, or the end
  rest_step : (limit : ℕ) (entries : List RowFields) (at : ℕ) (part : List ℕ)
      → ((entries : List RowFields) (at : ℕ) (part : List ℕ)
      → (read_from limit (rows_at cores tick entries) at part).verdict ≡ Ok tt → Rest tick entries part)
      → (one : Record) → Found part one
      → verdict_of (record_checks at (length part) (rows_at cores tick entries) one) ≡ Ok tt
      → (read_from (suc limit) (rows_at cores tick entries) at part).verdict ≡ Ok tt → Rest tick entries part
  unfolding joined entries_on misplaced
  rest_step limit entries at part later one (row is long) s sound =
      let reading = rows_at cores tick entries in
      let placed = row_placed at (length part) reading (row_fields part) rows_placed.0 in
      let fit = sound_row at (sheet_of cores tick entries) (row_fields part).priority (sym placed ∙ s) in
      let read = row_read cores tick entries part at limit is long fit in
      rest_row entries part is long fit
      (later (inserted (row_fields part) entries) (at + size_on part) (drop (size_on part) part) (ap (λ (o : Outcome). o.verdict) (sym read) ∙ sound))
  rest_step limit entries at part later one (end kind long) s sound =
      let fit = sound_end at (length part) (sheet_of cores tick entries) (count_on part) (sym (end_placed at (length part) (rows_at cores tick entries) (count_on part) rows_placed.1) ∙ s) in
      record {
        rows = [];
        end = part;
        made = refl;
        are_rows = tt;
        accepted = tt;
        is_end_holds = record { of_kind = kind; in_full = omega (arith, fit.last, length_end) };
        counted = omega (arith, fit.counted, count_of_sheet cores tick entries);
      }
  rest_step limit entries at part later one (board kind long) s sound =
      absurd (sound_not_refused 13 at (sym (board_misplaced at (length part) (rows_at cores tick entries) (cores_on part) (tick_on part) refl) ∙ s))
  rest_step limit entries at part later one (cut h short) s sound =
      absurd (cut_not_sound at (length part) (rows_at cores tick entries) (get_or part 0 0) s)
  rest_step limit entries at part later one (unknown h e) s sound =
      absurd (unknown_not_sound at (length part) (rows_at cores tick entries) s)
  rest_step limit entries at part later one (nothing e) s sound =
      absurd (missing_not_sound at (length part) (rows_at cores tick entries) s)

  rest_of : (limit : ℕ) (entries : List RowFields) (at : ℕ) (part : List ℕ) → (read_from limit (rows_at cores tick entries) at part).verdict ≡ Ok tt → Rest tick entries part
  unfolding refused
  rest_of zero entries at part s =
      let none = ap (λ (o : Outcome). o.verdict) (read_none (rows_at cores tick entries) at part) in
      absurd (sound_not_refused 11 at (sym none ∙ s))
  rest_of (suc limit) entries at part s =
      rest_step limit entries at part (rest_of limit) (record_on part) (found part) (read_sound limit (rows_at cores tick entries) at part s) s

-- a board record with a tick length, and the rest behind it
made_rest : (sheet : List ℕ) → OneRecord board_kind (take board_length sheet) → 0 < (tick_on (take board_length sheet)).0
    → Rest (tick_on (take board_length sheet)) [] (drop board_length sheet) → MadeOf sheet
made_rest sheet first tick rest =
    let board = take board_length sheet in
    let a = acceptable [] (entries_on rest.rows) (omega arith) rest.accepted in
    record {
      board = board;
      rows = rest.rows;
      end = rest.end;
      made = sym (take-append-drop board_length sheet) ∙ ap (λ (r : List ℕ). board ++ r) rest.made;
      in_order =
          record {
            board_first = first;
            some_tick = tick;
            then_rows = rest.are_rows;
            few_rows = omega (arith, a.few, length_entries rest.rows);
            permitted = a.permitted;
            different = a.different;
            end_last = rest.is_end_holds;
            counted = omega (arith, rest.counted);
          };
    }

-- the first record is the board, and the rest is read behind it
made_step : (sheet : List ℕ) (one : Record) → Found sheet one
    → verdict_of (record_checks 0 (length sheet) new_reading one) ≡ Ok tt
    → (read_from (suc (length sheet)) new_reading 0 sheet).verdict ≡ Ok tt → MadeOf sheet
unfolding new_reading misplaced
made_step sheet one (board kind long) s sound =
    let front = take board_length sheet in
    let first : OneRecord board_kind front = front_board sheet kind long in
    let placed = board_placed 0 (length sheet) new_reading (cores_on sheet) (tick_on sheet) board_fits in
    let some = sound_board 0 (tick_on sheet) (sym placed ∙ s) in
    let tick : 0 < (tick_on front).0 = rw (← ap (λ (m : Micros). m.0) (front_tick sheet long)) some in
    let read = board_read front (drop board_length sheet) first tick (length sheet) in
    made_rest sheet first tick
    (rest_of (cores_on front) (tick_on front) (length sheet) [] board_length (drop board_length sheet) (ap (λ (o : Outcome). o.verdict) (sym read) ∙ rw (take-append-drop board_length sheet) sound))
made_step sheet one (row kind long) s sound =
    absurd (sound_not_refused 13 0 (sym (row_misplaced 0 (length sheet) new_reading (row_fields sheet) refl) ∙ s))
made_step sheet one (end kind long) s sound =
    absurd (sound_not_refused 13 0 (sym (end_misplaced 0 (length sheet) new_reading (count_on sheet) refl) ∙ s))
made_step sheet one (cut h short) s sound = absurd (cut_not_sound 0 (length sheet) new_reading (get_or sheet 0 0) s)
made_step sheet one (unknown h e) s sound = absurd (unknown_not_sound 0 (length sheet) new_reading s)
made_step sheet one (nothing e) s sound = absurd (missing_not_sound 0 (length sheet) new_reading s)

-- A sheet that is read to the end is made of a board record, rows and an end record as document 01 asks.
pub sound_made : (sheet : List ℕ) → (read_of sheet).verdict ≡ Ok tt → MadeOf sheet
sound_made sheet s =
    let sound = ap (λ (o : Outcome). o.verdict) (sym (read_of_lem sheet)) ∙ s in
    made_step sheet (record_on sheet) (found sheet) (read_sound (length sheet) new_reading 0 sheet sound) sound
