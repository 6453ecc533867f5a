-- A sheet is without fault exactly when it is a board record, rows and an end record as document 01 asks.
use Prim.Native.Nat.{ℕ, zero, suc, ◌+◌, ◌*◌, ◌≤◌, ◌<◌}
use native.Mathlib.Omega.{arith}
use mathlib.Core.Path.{◌≡◌, refl, sym, ap, ◌∙◌}
use mathlib.Core.Bool.{true, false}
use mathlib.Core.List.{List, [], ◌∷◌, ◌++◌, append_assoc}
use lib.ListN.{length, drop, length-append}
use lib.Seq.{drop_at}
use Rattle.laws.specs.Each.{Each}
use Rattle.quantities.specs.Limits.{row_capacity}
use Rattle.quantities.specs.declared.Micros.{Micros}
use Rattle.records.specs.Records.{board_kind, row_kind, end_kind, board_length, longest_record, is_row_kind, kind_on, size_on}
use Rattle.records.specs.Records.{cores_on, tick_on, count_on, row_fields, is_end, OneRecord, RowRecord}
use Rattle.records.specs.declared.RowFields.{RowFields}
use Rattle.records.specs.declared.Record.TheVariants.{Row}
use Rattle.records.proofs.Records.{size_board}
use Rattle.records.proofs.Parts.{on_row, fields_front, kind_front, size_front, board_front, end_alone}
use Rattle.records.proofs.Parts.{board_long, row_long, end_long}
use Rattle.entries.specs.Entries.{used, inserted, inserted_all, with_entry, sheet_of}
use Rattle.sheet.specs.Checks.{misplaced}
use Rattle.sheet.specs.Reader.{new_reading, after_record, whole, read_of}
use Rattle.sheet.specs.Whole.{joined, entries_on, WholeSheet, bytes_of}
use Rattle.sheet.specs.declared.Reading.{Reading}
use Rattle.std.specs.Prelude.{Ok}
use Rattle.entries.proofs.Sheets.{board_sheet_lem, entries_of_sheet, count_of_sheet, sheet_with}
use Rattle.sheet.proofs.Checks.{SoundRow, SoundEnd, board_placed, row_placed, end_placed, row_sound, end_sound, board_sound}
use Rattle.sheet.proofs.Accepted.{Accepted, Fresh, accepted}
use Rattle.entries.proofs.Order.{length_inserted}
use Rattle.sheet.proofs.Reader.{verdict_at, read_from, read_whole, read_on, read_of_lem}

-- the reading past the board record, with these entries so far
abbrev pub rows_at : ℕ → Micros → List RowFields → Reading
rows_at cores tick entries = record { begun = true; sheet = sheet_of cores tick entries }

pub board_fits : misplaced new_reading.begun board_kind ≡ false
unfolding new_reading misplaced
board_fits = refl

pub rows_placed : (misplaced true row_kind ≡ false) × (misplaced true end_kind ≡ false)
unfolding misplaced
rows_placed = (refl, refl)

-- a board record that is sound is taken, and the rows are read behind it
pub board_read : (board rest : List ℕ) → OneRecord board_kind board → 0 < (tick_on board).0 → (limit : ℕ)
    → read_from (suc limit) new_reading 0 (board ++ rest) ≡ read_from limit (rows_at (cores_on board) (tick_on board) []) board_length rest
unfolding is_end after_record new_reading
board_read board rest first some limit =
    let on = board_front board rest first in
    let size = board_long board first in
    let takes : size_on (board ++ rest) ≡ board_length =
    size_board (board ++ rest) (kind_front board rest (omega arith) ∙ first.of_kind) in
    let sound : verdict_at 0 new_reading (board ++ rest) ≡ Ok tt = rw on (board_placed 0 (length (board ++ rest)) new_reading (cores_on board) (tick_on board) board_fits ∙ board_sound 0 (tick_on board) some) in
    read_on new_reading 0 (board ++ rest) limit sound (ap is_end on)
    ∙ rw (on, takes, drop_at board rest board_length size, board_sheet_lem (cores_on board) (tick_on board))

-- there are as many entries as row records
pub length_entries : (rows : List (List ℕ)) → length (entries_on rows) ≡ length rows
unfolding entries_on
length_entries [] = refl
length_entries (row ∷ rows) = ap suc (length_entries rows)

-- after no entry each priority is fresh
fresh_none : (news : List RowFields) → Fresh [] news
unfolding used
fresh_none [] = tt
fresh_none (new ∷ news) = (refl, fresh_none news)

module _ (cores : ℕ) (tick : Micros) where
  pub after_row : (entries : List RowFields) (fields : RowFields) → length entries < row_capacity
      → after_record (rows_at cores tick entries) (Row fields) ≡ rows_at cores tick (inserted fields entries)
  unfolding after_record with_entry sheet_of
  after_row entries fields h = rw (sheet_with cores tick entries fields h)

  -- a row record that is sound is taken, and the reading goes on behind it
  pub row_read : (entries : List RowFields) (part : List ℕ) (at limit : ℕ) → is_row_kind (kind_on part) ≡ true → size_on part ≤ length part
      → SoundRow (sheet_of cores tick entries) (row_fields part).priority
      → read_from (suc limit) (rows_at cores tick entries) at part ≡ read_from limit (rows_at cores tick (inserted (row_fields part) entries)) (at + size_on part) (drop (size_on part) part)
  unfolding is_end
  row_read entries part at limit is long s =
      let on = on_row part is long in
      let room : length entries < row_capacity = omega (arith, s.room, count_of_sheet cores tick entries) in
      let sound : verdict_at at (rows_at cores tick entries) part ≡ Ok tt = rw on (row_placed at (length part) (rows_at cores tick entries) (row_fields part) rows_placed.0 ∙ row_sound at (sheet_of cores tick entries) (row_fields part).priority s) in
      read_on (rows_at cores tick entries) at part limit sound (ap is_end on) ∙ rw (on, after_row entries (row_fields part) room)

  -- an end record that is sound ends the reading
  end_read : (entries : List RowFields) (part : List ℕ) (at limit : ℕ) → OneRecord end_kind part → count_on part ≡ length entries
      → read_from (suc limit) (rows_at cores tick entries) at part ≡ whole (sheet_of cores tick entries)
  unfolding is_end
  end_read entries part at limit last counted =
      let on = end_alone part last in
      let long = end_long part last in
      let fits : SoundEnd (length part) (sheet_of cores tick entries) (count_on part) = record { counted = omega (arith, count_of_sheet cores tick entries); last = omega arith } in
      let sound : verdict_at at (rows_at cores tick entries) part ≡ Ok tt = rw on (end_placed at (length part) (rows_at cores tick entries) (count_on part) rows_placed.1 ∙ end_sound at (length part) (sheet_of cores tick entries) (count_on part) fits) in
      read_whole (rows_at cores tick entries) at part limit sound (ap is_end on)

  -- rows that are accepted, and an end record that counts them, are read to the end
  rows_read : (entries : List RowFields) (rows : List (List ℕ)) (end : List ℕ) (at limit : ℕ)
      → Each RowRecord rows → Accepted entries (entries_on rows) → OneRecord end_kind end
      → count_on end ≡ length rows + length entries → length rows < limit
      → read_from limit (rows_at cores tick entries) at (joined rows ++ end) ≡ whole (sheet_of cores tick (inserted_all (entries_on rows) entries))
  unfolding joined entries_on inserted_all sheet_of
  rows_read entries rows end at zero r a last c l = absurd (omega arith)
  rows_read entries [] end at (suc limit) r a last c l = end_read entries end at limit last (omega arith)
  rows_read entries (row ∷ rows) end at (suc limit) r a last c l =
      let rest = joined rows ++ end in
      let new = row_fields row in
      let some = (row_long row r.0).some in
      let takes : size_on (row ++ rest) ≡ length row = size_front row rest some ∙ sym r.0.in_full in
      let long : size_on (row ++ rest) ≤ length (row ++ rest) = omega (arith, length-append row rest) in
      let is = ap is_row_kind (kind_front row rest some) ∙ r.0.is_row in
      let same = fields_front row rest r.0.is_row (omega (arith, r.0.in_full)) in
      let fits : SoundRow (sheet_of cores tick entries) (row_fields (row ++ rest)).priority = rw (ap (λ (f : RowFields). f.priority) same) (record { room = a.0; filled = a.1.filled; in_range = a.1.in_range; unused = rw (entries_of_sheet cores tick entries) a.2 }) in
      rw
      append_assoc
      (row_read entries (row ++ rest) at limit is long fits ∙ rw (same, takes, drop_at row rest (length row) refl) (rows_read (inserted new entries) rows end (at + length row) limit r.1 a.3 last (omega (arith, length_inserted new entries)) (omega arith)))

-- How many bytes row records take: one or more each, and none more than the longest.
pub record Joined (rows : List (List ℕ)) : Type 0 where
  pub some : length rows ≤ length (joined rows)
  pub most : length (joined rows) ≤ longest_record * length rows

pub length_joined : (rows : List (List ℕ)) → Each RowRecord rows → Joined rows
unfolding joined
length_joined [] r = record { some = omega arith; most = omega arith }
length_joined (row ∷ rows) r =
    let one = row_long row r.0 in
    let others = length_joined rows r.1 in
    let both = length-append row (joined rows) in
    record { some = omega (arith, one.some, others.some); most = omega (arith, one.most, others.most) }

-- the rows of a sheet without fault are accepted
pub whole_accepted : (board : List ℕ) (rows : List (List ℕ)) (end : List ℕ) → WholeSheet board rows end → Accepted [] (entries_on rows)
whole_accepted board rows end w =
    accepted [] (entries_on rows)
    (record {
      few = omega (arith, w.few_rows, length_entries rows);
      permitted = w.permitted;
      different = w.different;
      fresh = fresh_none (entries_on rows);
    })

-- The sheet that a board record, rows and an end record make is read to the end.
pub whole_read : (board : List ℕ) (rows : List (List ℕ)) (end : List ℕ) → WholeSheet board rows end
    → read_of (bytes_of board rows end) ≡ whole (sheet_of (cores_on board) (tick_on board) (inserted_all (entries_on rows) []))
whole_read board rows end w =
    let rest = joined rows ++ end in
    let size = board_long board w.board_first in
    let a = whole_accepted board rows end w in
    let l = length_joined rows w.then_rows in
    read_of_lem (bytes_of board rows end) ∙ board_read board rest w.board_first w.some_tick (length (board ++ rest))
    ∙ rows_read (cores_on board) (tick_on board) [] rows end board_length (length (board ++ rest)) w.then_rows a w.end_last (omega (arith, w.counted)) (omega (arith, l.some, length-append board rest, length-append (joined rows) end))
