-- The starred numbers of document 01 in one list; proofs/Starred.antt shows that every claim holds.
use Rattle.std.specs.Prelude.{ℕ, ◌≡◌, List, [], ◌∷◌, ◌++◌, replicate}
use Rattle.std.proofs.Math.Option.{Option, none, some}
use Rattle.laws.specs.Each.{Each}
use Rattle.quantities.specs.declared.Table.{Table}
use Rattle.quantities.specs.declared.Fault.TheVariants.{WholeList, OneRow}
use Rattle.quantities.specs.Row.{row_of, no_row}
use Rattle.quantities.specs.Paper.{paper}
use Rattle.windows.specs.declared.Answer.TheVariants.{Shown, NotShown, Refused}
use Rattle.windows.specs.Window.{plain, carry}
use Rattle.windows.specs.Answer.{Judged, judged, judged_into, bounds_after, answer_paper}
use Rattle.bench.specs.declared.Bench.{Bench}
use Rattle.bench.specs.declared.Finish.{Finish}
use Rattle.bench.specs.Step.{opened, tick}
use Rattle.bench.specs.History.{Call, releases, ticks, after}

-- Every row shown with these bounds, or a row not shown at a place, with those of the rows before it.
abbrev pub shown : List ℕ → Judged
shown bounds = record { answer = Shown; bounds = bounds }

abbrev pub not_shown : (place : ℕ) → List ℕ → Judged
not_shown place bounds = record { answer = NotShown 8 place; bounds = bounds }

-- Without carry-in, C 2, T 5. With carry-in, C 2, T 6, R 3.
abbrev pub window_claims : List (Type 0)
window_claims =
    (plain 2 5 5 ≡ 2) ∷ (plain 2 5 6 ≡ 3)
    ∷ (carry 2 6 3 1 ≡ 2) ∷ (carry 2 6 3 5 ≡ 2) ∷ (carry 2 6 3 6 ≡ 3) ∷ (carry 2 6 3 7 ≡ 3) ∷ (carry 2 6 3 8 ≡ 4)
    ∷ []

-- Rows as (C, D, T).
abbrev pub list_claims : List (Type 0)
list_claims =
    (judged 2 (row_of 2 5 5 ∷ row_of 3 8 8 ∷ row_of 2 4 10 ∷ []) ≡ shown (2 ∷ 3 ∷ 4 ∷ []))
    ∷ (judged 2 (row_of 2 5 5 ∷ row_of 3 8 8 ∷ row_of 2 4 10 ∷ row_of 3 20 20 ∷ []) ≡ shown (2 ∷ 3 ∷ 4 ∷ 7 ∷ []))
    ∷ (judged 2 (row_of 2 5 5 ∷ row_of 3 8 8 ∷ row_of 2 3 10 ∷ []) ≡ not_shown 3 (2 ∷ 3 ∷ []))
    ∷ (answer_paper (NotShown 8 3) ≡ paper 8 3)
    ∷ (bounds_after (judged_into 2 4 (row_of 2 5 5 ∷ row_of 3 8 8 ∷ row_of 2 3 10 ∷ [])) (90 ∷ 91 ∷ 92 ∷ 93 ∷ [])
    ≡ 2 ∷ 3 ∷ 92 ∷ 93 ∷ [])
    ∷ (judged 1 (row_of 1 4 4 ∷ row_of 2 6 6 ∷ row_of 5 12 12 ∷ []) ≡ shown (1 ∷ 3 ∷ 12 ∷ []))
    ∷ (judged 1 (row_of 1 4 4 ∷ row_of 2 6 6 ∷ row_of 5 11 12 ∷ []) ≡ not_shown 3 (1 ∷ 3 ∷ []))
    ∷ (judged 1 (row_of 1 1 1 ∷ []) ≡ shown (1 ∷ []))
    ∷ (judged 1 (row_of 1 1 1 ∷ row_of 1 1 1 ∷ []) ≡ not_shown 2 (1 ∷ []))
    ∷ (judged 1 (row_of 1000000 1000000 1000000 ∷ []) ≡ shown (1000000 ∷ []))
    ∷ ((judged 1 (row_of 1000000 1000000 1000001 ∷ [])).answer ≡ Refused (OneRow 6 1))
    ∷ ((judged 0 []).answer ≡ Refused (WholeList 1))
    ∷ ((judged 0 (row_of 0 5 5 ∷ [])).answer ≡ Refused (WholeList 2))
    ∷ ((judged 1 (row_of 5 4 3 ∷ [])).answer ≡ Refused (OneRow 4 1))
    ∷ []

-- Bench, M 1, (1,4,4) (2,6,6) (5,12,12), full demands at instant 0, row 1 again at 4 and 8, row 2 at 6: these
-- calls bring it to instant 11,
abbrev pub board : Table
board = record { count = 3; rows = row_of 1 4 4 ∷ row_of 2 6 6 ∷ row_of 5 12 12 ∷ replicate 29 no_row }

abbrev pub calls : List Call
calls =
    releases 1 1 ∷ releases 2 2 ∷ releases 3 5
    ∷ ticks ∷ ticks ∷ ticks ∷ ticks ∷ releases 1 1
    ∷ ticks ∷ ticks ∷ releases 2 2
    ∷ ticks ∷ ticks ∷ releases 1 1
    ∷ ticks ∷ ticks ∷ ticks
    ∷ []

-- and the next tick, at whose end the clock stands at 12, lists row 3, 12 ticks after its release.
abbrev pub last_tick : Option Bench → List Finish
last_tick none = []
last_tick (some start) = (tick (after start calls)).finishes

abbrev pub clock_then : Option Bench → ℕ
clock_then none = 0
clock_then (some start) = (tick (after start calls)).bench.now.0

abbrev pub bench_claims : List (Type 0)
bench_claims =
    (last_tick (opened 1 board) ≡ record { place = 3; response = record { 0 = 12 } } ∷ [])
    ∷ (clock_then (opened 1 board) ≡ 12)
    ∷ []

abbrev pub claims : List (Type 0)
claims = window_claims ++ list_claims ++ bench_claims

abbrev pub StarredHold : Type 0
StarredHold = Each (λ claim. claim) claims
