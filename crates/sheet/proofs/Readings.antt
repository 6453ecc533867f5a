-- What a reading stands for: the board record and the rows before its place.
use Prim.Native.Nat.{ℕ, ◌+◌, ◌<◌}
use native.Mathlib.Nat.{zero-add}
use native.Mathlib.Omega.{arith}
use mathlib.Core.Path.{◌≡◌, refl, sym, ap, subst, ◌∙◌}
use mathlib.Core.Logic.{◌⊎◌, inl, inr, ⊎_elim}
use mathlib.Core.Bool.{false}
use mathlib.Core.List.{List, [], ◌∷◌, ◌++◌, append_assoc, append-nil}
use lib.ListN.{length, get_or, take, drop, length-append}
use lib.Seq.{length-take-le, take-add}
use Rattle.laws.specs.Each.{Each}
use Rattle.laws.specs.Permuted.{Permuted, as_is, keep, both}
use Rattle.laws.proofs.Lists.{each_append}
use Rattle.laws.proofs.Permuted.{permuted_back, permuted_move}
use Rattle.laws.proofs.Tests.{not_one}
use Rattle.quantities.specs.Limits.{row_capacity}
use Rattle.quantities.specs.declared.Micros.{Micros}
use Rattle.records.specs.Records.{board_kind, board_length, size_on, cores_on, tick_on, count_on, row_fields}
use Rattle.records.specs.Records.{record_on, is_end, OneRecord, RowRecord}
use Rattle.records.specs.declared.Record.{Record}
use Rattle.records.proofs.Records.{Found, nothing, unknown, cut, board, row, end, found, size_board}
use Rattle.records.proofs.Parts.{front_board, front_cores, front_tick, front_row, front_fields}
use Rattle.entries.specs.Entries.{inserted, sheet_of}
use Rattle.sheet.specs.Checks.{misplaced, record_checks, verdict_of}
use Rattle.sheet.specs.Reader.{new_reading, after_record}
use Rattle.sheet.specs.Faults.{record_at, size_at, checks_at, ReadTo, start, next, RowsRead, ReadToMeans}
use Rattle.sheet.specs.Whole.{joined, entries_on}
use Rattle.records.specs.declared.RowFields.{RowFields}
use Rattle.sheet.specs.declared.Reading.{Reading}
use Rattle.std.specs.Prelude.{Ok}
use Rattle.entries.proofs.Sheets.{board_sheet_lem, entries_of_sheet, count_of_sheet}
use Rattle.sheet.proofs.Checks.{sound_not_refused, missing_not_sound, unknown_not_sound, cut_not_sound}
use Rattle.sheet.proofs.Checks.{board_misplaced, row_misplaced, row_placed, end_misplaced, sound_row}
use Rattle.entries.proofs.Order.{inserted_permuted, length_inserted}
use Rattle.sheet.proofs.Reader.{sound_within}
use Rattle.sheet.proofs.Faults.{verdict_none}
use Rattle.sheet.proofs.Whole.{rows_at, rows_placed, after_row}

-- what is known of a reading past the board record
record Known (sheet : List ℕ) (reading : Reading) (at : ℕ) : Type 0 where
  board : List ℕ
  rows : List (List ℕ)
  entries : List RowFields
  is : reading ≡ rows_at (cores_on board) (tick_on board) entries
  stand : take at sheet ≡ board ++ joined rows
  ends : at ≡ length (board ++ joined rows)
  board_first : OneRecord board_kind board
  then_rows : Each RowRecord rows
  counted : length entries ≡ length rows
  entered : Permuted (entries_on rows) entries

-- one row more, at the end
joined_more : (rows : List (List ℕ)) (more : List ℕ) → joined (rows ++ more ∷ []) ≡ joined rows ++ more
unfolding joined
joined_more [] more = append-nil more
joined_more (first ∷ rows) more =
    ap (λ (r : List ℕ). first ++ r) (joined_more rows more) ∙ sym (append_assoc first (joined rows) more)

entries_more : (rows : List (List ℕ)) (more : List ℕ)
    → entries_on (rows ++ more ∷ []) ≡ entries_on rows ++ row_fields more ∷ []
unfolding entries_on
entries_more [] more = refl
entries_more (first ∷ rows) more =
    ap (λ (es : List RowFields). row_fields first ∷ es) (entries_more rows more)

pub entered_more : (new : RowFields) (all entries : List RowFields) → Permuted all entries
    → Permuted (all ++ new ∷ []) (inserted new entries)
entered_more new all entries p =
    let front : Permuted (new ∷ all) (all ++ new ∷ []) =
    subst (λ (xs : List RowFields). Permuted (new ∷ xs) (all ++ new ∷ [])) (append-nil all) (permuted_move new all []) in
    both (permuted_back front) (both (keep new p) (inserted_permuted new entries))

-- a row record at the front of a part, and the reading after it
record RowHere (part : List ℕ) (cores : ℕ) (tick : Micros) (entries : List RowFields) (reading : Reading) : Type 0 where
  is_row : RowRecord (take (size_on part) part)
  after : reading ≡ rows_at cores tick (inserted (row_fields (take (size_on part) part)) entries)

module _ (sheet : List ℕ) where
  -- the board record, read first
  known_board : (one : Record) → Found sheet one → verdict_of (record_checks 0 (length sheet) new_reading one) ≡ Ok tt
      → Known sheet (after_record new_reading one) (size_on sheet)
  unfolding new_reading misplaced after_record joined entries_on
  known_board one (board kind long) s =
      let front = take board_length sheet in
      let takes = size_board sheet kind in
      record {
        board = front;
        rows = [];
        entries = [];
        is = rw (board_sheet_lem (cores_on sheet) (tick_on sheet), front_cores sheet long, front_tick sheet long) refl;
        stand = rw takes (sym (append-nil front));
        ends = rw (takes, append-nil front) (sym (length-take-le board_length sheet long));
        board_first = front_board sheet kind long;
        then_rows = tt;
        counted = refl;
        entered = as_is;
      }
  known_board one (row kind long) s =
      absurd (sound_not_refused 13 0 (sym (row_misplaced 0 (length sheet) new_reading (row_fields sheet) refl) ∙ s))
  known_board one (end kind long) s =
      absurd (sound_not_refused 13 0 (sym (end_misplaced 0 (length sheet) new_reading (count_on sheet) refl) ∙ s))
  known_board one (cut h short) s = absurd (cut_not_sound 0 (length sheet) new_reading (get_or sheet 0 0) s)
  known_board one (unknown h e) s = absurd (unknown_not_sound 0 (length sheet) new_reading s)
  known_board one (nothing e) s = absurd (missing_not_sound 0 (length sheet) new_reading s)

  -- a row record, read after it
  known_row : (at : ℕ) (part : List ℕ) (cores : ℕ) (tick : Micros) (entries : List RowFields) (one : Record)
      → Found part one → verdict_of (record_checks at (length part) (rows_at cores tick entries) one) ≡ Ok tt
      → is_end one ≡ false → RowHere part cores tick entries (after_record (rows_at cores tick entries) one)
  unfolding is_end misplaced
  known_row at part cores tick entries one (row is long) s last =
      let placed = row_placed at (length part) (rows_at cores tick entries) (row_fields part) rows_placed.0 in
      let fit = sound_row at (sheet_of cores tick entries) (row_fields part).priority (sym placed ∙ s) in
      let room : length entries < row_capacity = omega (arith, fit.room, count_of_sheet cores tick entries) in
      record {
        is_row = front_row part is long;
        after = rw (← front_fields part is long) (after_row cores tick entries (row_fields part) room);
      }
  known_row at part cores tick entries one (end kind long) s last = absurd (not_one cc)
  known_row at part cores tick entries one (board kind long) s last =
      absurd (sound_not_refused 13 at (sym (board_misplaced at (length part) (rows_at cores tick entries) (cores_on part) (tick_on part) refl) ∙ s))
  known_row at part cores tick entries one (cut h short) s last =
      absurd (cut_not_sound at (length part) (rows_at cores tick entries) (get_or part 0 0) s)
  known_row at part cores tick entries one (unknown h e) s last =
      absurd (unknown_not_sound at (length part) (rows_at cores tick entries) s)
  known_row at part cores tick entries one (nothing e) s last =
      absurd (missing_not_sound at (length part) (rows_at cores tick entries) s)

  -- so a reading that is known is known after the next record
  known_next : (reading : Reading) (at : ℕ) → Known sheet reading at
      → verdict_of (checks_at sheet reading at) ≡ Ok tt → is_end (record_at sheet at) ≡ false
      → Known sheet (after_record reading (record_at sheet at)) (at + size_at sheet at)
  known_next reading at known s last =
      let part = drop at sheet in
      let cores = cores_on known.board in
      let tick = tick_on known.board in
      let sound : verdict_of (record_checks at (length part) (rows_at cores tick known.entries) (record_on part)) ≡ Ok tt = rw known.is at s in
      let here = known_row at part cores tick known.entries (record_on part) (found part) sound last in
      let front = take (size_on part) part in
      let new = row_fields front in
      let together : Permuted (entries_on (known.rows ++ front ∷ [])) (inserted new known.entries) =
      rw (entries_more known.rows (front)) (entered_more new (entries_on known.rows) known.entries known.entered) in
      let within = sound_within at (length part) (rows_at cores tick known.entries) part (record_on part) (found part) sound in
      let size_known : length front ≡ size_on part = length-take-le (size_on part) part within.all in
      let reached : at + size_at sheet at ≡ length (known.board ++ joined (known.rows ++ front ∷ [])) =
      rw (joined_more known.rows (front), ← append_assoc known.board (joined known.rows) (front), length-append)
      (omega (arith, known.ends, size_known)) in
      record {
        board = known.board;
        rows = known.rows ++ front ∷ [];
        entries = inserted new known.entries;
        is = rw known.is here.after;
        stand =
            rw (take-add at (size_on part) sheet, known.stand, joined_more known.rows (front))
            (append_assoc known.board (joined known.rows) (front));
        ends = reached;
        board_first = known.board_first;
        then_rows = each_append RowRecord known.rows (front ∷ []) known.then_rows (here.is_row, tt);
        counted =
            omega
            (arith, length_inserted new known.entries, known.counted, length-append known.rows (front ∷ []));
        entered = together;
      }

  known_first : (reading : Reading) (at : ℕ) → at ≡ 0 → reading ≡ new_reading
      → verdict_of (checks_at sheet reading at) ≡ Ok tt
      → Known sheet (after_record reading (record_at sheet at)) (at + size_at sheet at)
  known_first reading at none new s =
      rw (none, new, zero-add) (known_board (record_on sheet) (found sheet) (rw (none, new) at s))

  known_to : (reading : Reading) (at : ℕ) → ReadTo sheet reading at
      → ((at ≡ 0) × (reading ≡ new_reading)) ⊎ Known sheet reading at
  known_to reading at start = inl (refl, refl)
  known_to reading at (next {reading = before} {at = from} read passed last) =
      let s = verdict_none (checks_at sheet before from) passed in
      ⊎_elim (λ (first : (from ≡ 0) × (before ≡ new_reading)). inr (known_first before from first.0 first.1 s))
      (λ (known : Known sheet before from). inr (known_next before from known s last))
      (known_to before from read)

-- what is known, in the words of specs/Faults.antt
rows_read : (sheet : List ℕ) (reading : Reading) (at : ℕ) → Known sheet reading at → RowsRead sheet reading at
rows_read sheet reading at known =
    let cores = cores_on known.board in
    let tick = tick_on known.board in
    record {
      board = known.board;
      rows = known.rows;
      stand = known.stand;
      ends = known.ends;
      board_first = known.board_first;
      then_rows = known.then_rows;
      begun = ap (λ (r : Reading). r.begun) known.is;
      counted =
          ap (λ (r : Reading). r.sheet.count) known.is ∙ count_of_sheet cores tick known.entries ∙ known.counted;
      entered = rw (known.is, entries_of_sheet cores tick known.entries) known.entered;
    }

pub read_to_means : ReadToMeans
read_to_means sheet reading at read =
    ⊎_elim (λ (none : (at ≡ 0) × (reading ≡ new_reading)). inl none)
    (λ (known : Known sheet reading at). inr (rows_read sheet reading at known))
    (known_to sheet reading at read)
