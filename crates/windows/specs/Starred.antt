-- The starred numbers of document 01, "Numbers to check by hand": one list of claims about the definitions; all hold.
use Rattle.std.specs.Prelude.{ℕ, ◌≡◌, refl, List, [], ◌∷◌}
use Rattle.laws.specs.Each.{Each}
use Rattle.quantities.specs.Row.{row_of}
use Rattle.quantities.specs.declared.Fault.TheVariants.{WholeList, OneRow}
use Rattle.windows.specs.declared.Answer.TheVariants.{Shown, NotShown, Refused}
use Rattle.windows.specs.Window.{plain, carry}
use Rattle.windows.specs.Answer.{Judged, judged, judged_into, bounds_after, answer_paper}
use Rattle.windows.specs.Computing.{answers_compute}

-- answers as document 01 writes them down
abbrev shown : List ℕ → Judged
shown bounds = record { answer = Shown; bounds = bounds }

abbrev not_shown_holds : ℕ → List ℕ → Judged
not_shown_holds place bounds = record { answer = NotShown 8 place; bounds = bounds }

abbrev whole_list : ℕ → Judged
whole_list number = record { answer = Refused (WholeList number); bounds = [] }

abbrev at_row : ℕ → ℕ → Judged
at_row number place = record { answer = Refused (OneRow number place); bounds = [] }

-- The claims. Rows are row_of C D T, `judged M rows` is the answer on M cores.
abbrev pub claims : List (Type 0)
claims =
    (plain 2 5 5 ≡ 2)
    ∷ (plain 2 5 6 ≡ 3)
    ∷ (carry 2 6 3 1 ≡ 2)
    ∷ (carry 2 6 3 5 ≡ 2)
    ∷ (carry 2 6 3 6 ≡ 3)
    ∷ (carry 2 6 3 7 ≡ 3)
    ∷ (carry 2 6 3 8 ≡ 4)
    ∷ (judged 2 (row_of 2 5 5 ∷ row_of 3 8 8 ∷ row_of 2 4 10 ∷ []) ≡ shown (2 ∷ 3 ∷ 4 ∷ []))
    ∷ (judged 2 (row_of 2 5 5 ∷ row_of 3 8 8 ∷ row_of 2 4 10 ∷ row_of 3 20 20 ∷ []) ≡ shown (2 ∷ 3 ∷ 4 ∷ 7 ∷ []))
    ∷ (judged 2 (row_of 2 5 5 ∷ row_of 3 8 8 ∷ row_of 2 3 10 ∷ []) ≡ not_shown_holds 3 (2 ∷ 3 ∷ []))
    ∷ (answer_paper (judged 2 (row_of 2 5 5 ∷ row_of 3 8 8 ∷ row_of 2 3 10 ∷ [])).answer
    ≡ record { number = 8; place = 3 })
    ∷ (bounds_after (judged_into 2 4 (row_of 2 5 5 ∷ row_of 3 8 8 ∷ row_of 2 3 10 ∷ [])) (90 ∷ 91 ∷ 92 ∷ 93 ∷ [])
    ≡ 2 ∷ 3 ∷ 92 ∷ 93 ∷ [])
    ∷ (judged 1 (row_of 1 4 4 ∷ row_of 2 6 6 ∷ row_of 5 12 12 ∷ []) ≡ shown (1 ∷ 3 ∷ 12 ∷ []))
    ∷ (judged 1 (row_of 1 4 4 ∷ row_of 2 6 6 ∷ row_of 5 11 12 ∷ []) ≡ not_shown_holds 3 (1 ∷ 3 ∷ []))
    ∷ (judged 1 (row_of 1 1 1 ∷ []) ≡ shown (1 ∷ []))
    ∷ (judged 1 (row_of 1 1 1 ∷ row_of 1 1 1 ∷ []) ≡ not_shown_holds 2 (1 ∷ []))
    ∷ (judged 1 (row_of 1000000 1000000 1000000 ∷ []) ≡ shown (1000000 ∷ []))
    ∷ (judged 1 (row_of 1000000 1000000 1000001 ∷ []) ≡ at_row 6 1)
    ∷ (judged 0 [] ≡ whole_list 1)
    ∷ (judged 0 (row_of 0 5 5 ∷ []) ≡ whole_list 2)
    ∷ (judged 1 (row_of 5 4 3 ∷ []) ≡ at_row 4 1)
    ∷ []

infixr 4 ◌&◌
◌&◌ : {A B : Type 0} → A → B → A × B
a & b = (a, b)

pub starred : Each (λ claim. claim) claims
unfolding answers_compute
starred =
    refl & refl & refl & refl & refl & refl & refl & refl & refl & refl & refl
    & refl & refl & refl & refl & refl & refl & refl & refl & refl & refl & tt
