-- The answer depends on the first 1,024 bytes of a sheet alone.
use Prim.Native.Nat.{ℕ, zero, suc, ◌+◌, ◌-◌, ◌*◌, ◌≤◌, ◌<◌}
use native.Mathlib.Omega.{arith}
use native.Mathlib.Decide.{dec_le}
use mathlib.Core.Path.{◌≡◌, refl, sym, ap, ◌∙◌}
use mathlib.Core.Bool.{Bool, true, false}
use mathlib.Core.List.{List}
use lib.Dec.{ltb}
use lib.ListN.{length, get_or, take, drop, length-take, length-drop}
use lib.Seq.{take_all}
use borrow.Author.Tests.{lt-ltb}
use Rattle.laws.proofs.Lists.{drop_take}
use Rattle.laws.proofs.Tests.{not_one}
use Rattle.quantities.specs.Limits.{row_capacity}
use Rattle.records.specs.Records.{board_kind, row_kind, board_length, end_length, longest_record, kind_on, size_on}
use Rattle.records.specs.Records.{cores_on, tick_on, row_fields, record_on, is_end}
use Rattle.records.specs.declared.Record.{Record}
use Rattle.records.specs.declared.Record.TheVariants.{Missing, Unknown, Cut, Board, Row, End}
use Rattle.records.proofs.Records.{Found, nothing, unknown, cut, board, row, end, found, size_board, length_most}
use Rattle.records.proofs.Parts.{size_taken, on_taken}
use Rattle.entries.specs.Entries.{board_sheet, with_entry}
use Rattle.sheet.specs.Checks.{misplaced, end_checks, record_checks, verdict_of}
use Rattle.sheet.specs.Reader.{new_reading, no_sheet, after_record, read_of}
use Rattle.records.specs.declared.RowFields.{RowFields}
use Rattle.entries.specs.declared.Sheet.{Sheet}
use Rattle.sheet.specs.declared.Reading.{Reading}
use Rattle.sheet.specs.Checks.{Verdict}
use Rattle.std.specs.Prelude.{Ok, Err}
use Rattle.sheet.proofs.Checks.{sound_not_refused, missing_not_sound, unknown_not_sound, cut_not_sound, board_misplaced, row_misplaced, row_placed, sound_row}
use Rattle.sheet.proofs.Reader.{verdict_at, read_from, behind, sound_within, read_refused, read_whole, read_on, read_of_lem}

-- The checks ask of the bytes left only whether there are more than the end record's own.
left_same : (at left other : ℕ) (reading : Reading) (one : Record) → ltb end_length left ≡ ltb end_length other → record_checks at left reading one ≡ record_checks at other reading one
unfolding record_checks end_checks
left_same at left other reading Missing e = refl
left_same at left other reading Unknown e = refl
left_same at left other reading (Cut kind) e = refl
left_same at left other reading (Board cores tick) e = refl
left_same at left other reading (Row fields) e = refl
left_same at left other reading (End count) e = rw e

more_taken : (part : List ℕ) (k : ℕ) → end_length < k → ltb end_length (length (take k part)) ≡ ltb end_length (length part)
more_taken part k h =
    elim (dec_le (length part) k) [
      | yes s ↦ ap (λ (p : List ℕ). ltb end_length (length p)) (take_all k part s)
      | no s ↦
          lt-ltb end_length (length (take k part)) (omega (arith, length-take k part)) ∙ sym (lt-ltb end_length (length part) (omega arith))
    ]

verdict_taken : (at : ℕ) (reading : Reading) (part : List ℕ) (k : ℕ) → longest_record ≤ k → verdict_at at reading (take k part) ≡ verdict_at at reading part
verdict_taken at reading part k h =
    rw
    (on_taken part k h)
    (ap verdict_of (left_same at (length (take k part)) (length part) reading (record_on part) (more_taken part k (omega arith))))

-- How far a reading can have come: the board record, and the longest record for each of at most 32 rows.
record Steady (reading : Reading) (at : ℕ) : Type 0 where
  new : reading.begun ≡ false → at ≡ 0
  near : at ≤ board_length + longest_record * reading.sheet.count
  few : reading.sheet.count ≤ row_capacity

count_with_lem : (sheet : Sheet) (new : RowFields) → sheet.count < row_capacity → (with_entry sheet new).count ≡ sheet.count + 1
unfolding with_entry
count_with_lem sheet new h = rw (lt-ltb sheet.count row_capacity h)

begun_now : (b : Bool) → (misplaced b row_kind ≡ true → ⊥) → b ≡ true
unfolding misplaced
begun_now true h = refl
begun_now false h = absurd (h refl)

placed_now : (b : Bool) → b ≡ true → misplaced b row_kind ≡ false
unfolding misplaced
placed_now true e = refl
placed_now false e = sym e

not_begun : (b : Bool) → (misplaced b board_kind ≡ true → ⊥) → b ≡ false
unfolding misplaced
not_begun true h = absurd (h refl)
not_begun false h = refl

both_ways : (b : Bool) → b ≡ true → b ≡ false → ⊥
both_ways b p q = not_one cc

steady_next : (part : List ℕ) (reading : Reading) (at left : ℕ) → Steady reading at → (one : Record) → Found part one
    → verdict_of (record_checks at left reading one) ≡ Ok tt → is_end one ≡ false → Steady (after_record reading one) (at + size_on part)
unfolding after_record is_end board_sheet
steady_next part reading at left st one (nothing e) s l = absurd (missing_not_sound at left reading s)
steady_next part reading at left st one (unknown m e) s l = absurd (unknown_not_sound at left reading s)
steady_next part reading at left st one (cut m short) s l = absurd (cut_not_sound at left reading (get_or part 0 0) s)
steady_next part reading at left st one (board kind long) s l =
    let start = st.new (not_begun reading.begun (λ e. sound_not_refused 13 at (sym (board_misplaced at left reading (cores_on part) (tick_on part) e) ∙ s))) in
    record { new = λ e. absurd (both_ways true refl e); near = omega (arith, size_board part kind); few = omega arith }
steady_next part reading at left st one (row kind long) s l =
    let b = begun_now reading.begun (λ e. sound_not_refused 13 at (sym (row_misplaced at left reading (row_fields part) e) ∙ s)) in
    let fit = sound_row at reading.sheet (row_fields part).priority (sym (row_placed at left reading (row_fields part) (placed_now reading.begun b)) ∙ s) in
    let c = count_with_lem reading.sheet (row_fields part) fit.room in
    record { new = λ e. absurd (both_ways reading.begun b e); near = omega (arith, length_most (kind_on part), st.near); few = omega (arith, fit.room) }
steady_next part reading at left st one (end kind long) s l = absurd (both_ways true refl l)

-- a reading gives the same answer with the first bytes of the part alone, where they reach to byte 1,024
prefix_read : (limit other : ℕ) (reading : Reading) (at k : ℕ) (part : List ℕ) → Steady reading at → at + k ≡ 1024
    → length part < limit → length (take k part) < other → read_from limit reading at part ≡ read_from other reading at (take k part)
prefix_read zero other reading at k part st e h m = absurd (omega arith)
prefix_read (suc limit) zero reading at k part st e h m = absurd (omega arith)
prefix_read (suc limit) (suc other) reading at k part st e h m =
    by_verdict
    (prefix_read limit other (after_record reading one) (at + size) (k - size) (drop size part))
    (verdict_at at reading part)
    refl
  where
    one : Record
    one = record_on part

    size : ℕ
    size = size_on part

    Same : Type 0
    Same = read_from (suc limit) reading at part ≡ read_from (suc other) reading at (take k part)

    Later : Type 0
    Later =
        Steady (after_record reading one) (at + size) → at + size + (k - size) ≡ 1024
        → length (drop size part) < limit → length (take (k - size) (drop size part)) < other
        → behind limit reading at part ≡ read_from other (after_record reading one) (at + size) (take (k - size) (drop size part))

    enough : longest_record ≤ k
    enough = omega (arith, st.near, st.few)

    verdict : verdict_at at reading (take k part) ≡ verdict_at at reading part
    verdict = verdict_taken at reading part k enough

    on : record_on (take k part) ≡ one
    on = on_taken part k enough

    by_end : Later → (b : Bool) → is_end one ≡ b → verdict_at at reading part ≡ Ok tt → Same
    by_end later true last s =
        read_whole reading at part limit s last
        ∙ sym (read_whole reading at (take k part) other (verdict ∙ s) (ap is_end on ∙ last))
    by_end later false last s =
        let w = sound_within at (length part) reading part one (found part) s in
        let short = length_most (kind_on part) in
        let split : k ≡ size + (k - size) = omega arith in
        let same : drop size (take k part) ≡ take (k - size) (drop size part) = ap (λ (n : ℕ). drop size (take n part)) split ∙ drop_take size (k - size) part in
        let next = steady_next part reading at (length part) st one (found part) s last in
        let left = length-drop size part in
        let taken = length-take (k - size) (drop size part) in
        let goes = read_on reading at (take k part) other (verdict ∙ s) (ap is_end on ∙ last) in
        read_on reading at part limit s last
        ∙ later next (omega arith) (omega arith) (omega (arith, length-take k part))
        ∙ sym (goes ∙ rw (on, size_taken part k enough, same))

    by_verdict : Later → (v : Verdict) → verdict_at at reading part ≡ v → Same
    by_verdict later (Ok _) s = by_end later (is_end one) refl s
    by_verdict later (Err one) s =
        read_refused reading at part limit one.number one.place s
        ∙ sym (read_refused reading at (take k part) other one.number one.place (verdict ∙ s))

steady_new : Steady new_reading 0
unfolding new_reading no_sheet board_sheet
steady_new = record { new = λ e. refl; near = omega arith; few = omega arith }

pub read_first_bytes : (sheet : List ℕ) → read_of (take 1024 sheet) ≡ read_of sheet
read_first_bytes sheet =
    read_of_lem (take 1024 sheet)
    ∙ sym (prefix_read (suc (length sheet)) (suc (length (take 1024 sheet))) new_reading 0 1024 sheet steady_new refl (omega arith) (omega arith))
    ∙ sym (read_of_lem sheet)
