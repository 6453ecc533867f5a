-- Every starred number of document 01 holds of the definitions.
use mathlib.Core.Path.{refl}
use Rattle.windows.specs.Computing.{answers_compute}
use Rattle.bench.specs.Computing.{bench_computes}
use Rattle.promises.specs.Starred.{StarredHold}

infixr 4 ◌&◌
◌&◌ : {A B : Type 0} → A → B → A × B
a & b = (a, b)

pub starred : StarredHold
unfolding answers_compute bench_computes
starred =
    refl & refl & refl & refl & refl & refl & refl
    & refl & refl & refl & refl & refl & refl & refl & refl & refl & refl & refl & refl & refl & refl
    & refl & refl & tt
