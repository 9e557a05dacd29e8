-- What the kinds of choosers name, and what last conflict holds. Assumes nothing.
use Rattle.std.specs.Prelude.{◌≡◌, ℕ, zero, suc, ◌*◌, ◌<◌, Bool, cond, ◌&&◌, ◌||◌, ◌⊎◌, List, Some, None, Option, ◌==◌, nat_lt}
use Rattle.choosers.specs.declared.chooser.Event.{Event}
use Rattle.choosers.specs.declared.chooser.Event.TheVariants.{Start, Failed, Stood}
use Rattle.choosers.specs.declared.chooser.Figure.{Figure}
use Rattle.choosers.specs.Choice.{figure, Open, open?}

-- of the first n cells the open one that is left, where each open cell, in order, takes the place of the one before if it beats that; 255 if none is open
abbrev pub pick : (Figure → Figure → Bool) → List Figure → ℕ → ℕ
pick beats fs zero = 255
pick beats fs (suc n) =
    let b = pick beats fs n in
    cond (open? fs n && (b == 255 || beats (figure fs n) (figure fs b))) n b

-- the cell of the figure f goes before that of g: it has fewer places
abbrev pub Fewer : Figure → Figure → Type 0
Fewer f g = f.places < g.places

-- the same, as a test
abbrev pub fewer : Figure → Figure → Bool
fewer f g = nat_lt f.places g.places

-- the same by a smaller quotient of places by weighted degree: the quotient by degree 0 is the largest, and two others compare by their cross products
abbrev pub Lighter : Figure → Figure → Type 0
Lighter f g = (0 < f.degree) × ((g.degree ≡ 0) ⊎ (f.places * g.degree < g.places * f.degree))

-- the same at open cells, as a test
abbrev pub lighter : Figure → Figure → Bool
lighter f g = nat_lt (f.places * g.degree) (g.places * f.degree)

-- b is open, no open cell beats it, and it beats each open cell before it
pub record Best (Beats : Figure → Figure → Type 0) (fs : List Figure) (b : ℕ) : Type 0 where
  pub opened : Open fs b
  pub unbeaten : (k : ℕ) → Open fs k → Beats (figure fs k) (figure fs b) → ⊥
  pub first : (k : ℕ) → k < b → Open fs k → Beats (figure fs b) (figure fs k)

-- the lowest open cell that no open cell beats, or 255 if none is open
abbrev pub Chosen : (Figure → Figure → Type 0) → List Figure → ℕ → Type 0
Chosen Beats fs b = Best Beats fs b ⊎ ((b ≡ 255) × ((k : ℕ) → Open fs k → ⊥))

-- the cell that last conflict holds, after one thing told
abbrev pub hold : Option ℕ → Event → Option ℕ
hold h Start = None
hold None (Failed c) = Some c
hold (Some x) (Failed c) = Some x
hold None (Stood c) = None
hold (Some x) (Stood c) = cond (x == c) None (Some x)

-- the held cell while it is open, otherwise what is named below
abbrev pub held_or : Option ℕ → List Figure → ℕ → ℕ
held_or None fs n = n
held_or (Some c) fs n = cond (open? fs c) c n
