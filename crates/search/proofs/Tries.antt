-- Why tries come to an end, and which step of the relation each way through the code of a try is. Assumes nothing.
use Rattle.std.proofs.Common.{◌≡◌, ℕ, ◌+◌, ◌-◌, ◌*◌, ◌^◌, ◌<◌, ◌≤◌, Bool, true, false, ◌≢◌, Ok, Err, Result, MatchResult, is_ok, List, get_or, set, sym, refl, ap, subst, inl, inr, arith, length-set}
use Rattle.std.specs.Prelude.{sum}
use Rattle.std.proofs.lemmas.Bool.{cases_eq, false≢true, true≢false}
use Rattle.bits.specs.Sets.{In, Lowest, size}
use Rattle.bits.proofs.Bits.{has_le}
use Rattle.bits.proofs.Size.{size_pow, size_zero}
use Rattle.network.specs.Book.{BookMeaning}
use Rattle.choosers.specs.Choice.{Machine, Naming}
use Rattle.choosers.specs.declared.chooser.Event.TheVariants.{Failed, Stood}
use Rattle.runs.specs.Settle.{State, state, left_at, out_of, Settles, Fails}
use Rattle.runs.specs.Figures.{figures_of}
use Rattle.runs.specs.Run.{back, Choice, TryFails, TryFails.at_first, TryFails.at_last, TryStands, Chosen, Explores, Explores.stands, Explores.goes_on, Explores.ends}
use Rattle.runs.specs.Law.{Settled}
use Rattle.runs.proofs.Steps.{total_set, out_total, out_within}
use Rattle.runs.proofs.Chosen.{chosen, open_full}
use Rattle.search.specs.Room.{Able}
use Rattle.search.specs.Picks.{Picks}
use Rattle.search.proofs.Rooms.{able_sub}

-- what a result says, by a test of it
pub ok_says : {T E P : Type 0} (r : Result T E) (Q : E → Type 0) → is_ok r ≡ true → MatchResult r (λ _. P) Q → P
ok_says (Ok x) Q e h = h
ok_says (Err y) Q e h = absurd (false≢true e)

pub err_says : {T E : Type 0} {Q : E → Type 0} (r : Result T E) (P : T → Type 0) → is_ok r ≡ false → MatchResult r P Q → (y : E) × Q y
err_says (Ok x) P e h = absurd (true≢false e)
err_says (Err y) P e h = (y, h)

-- one place alone is less than an open set
pub open_above : (s v : ℕ) → 1 < size s → In s v → 2 ^ v < s
open_above s v h k = elim (cases_eq s (2 ^ v)) [
  | inl e ↦ absurd (omega (arith, ap size e, size_pow v))
  | inr ne ↦ omega (arith, has_le s v k)
]

pub open_some : (s : ℕ) → 1 < size s → s ≢ 0
open_some s h e = omega (arith, ap size e, size_zero)

-- a try takes some place away
pub chosen_above : (sets : List ℕ) (c v : ℕ) → Chosen sets c v → 2 ^ v < get_or sets c 0
chosen_above sets c v a = open_above (left_at sets c) v a.opened a.there.1

-- the measure of a try falls
pub try_falls : (s u : List ℕ) (c v p t : ℕ) → 2 * sum s ≡ t → Chosen s c v → p ≡ 2 ^ v → sum u ≤ sum (set s c p) → 2 * sum u + 1 < t
try_falls s u c v p t m a e h = omega (arith, total_set s c p a.within, chosen_above s c v a)

pub loop_falls : (s r t : ℕ) → 2 * r + 1 ≡ t → s ≤ r → 2 * s < t
loop_falls s r t m h = omega arith

pub out_falls : (sets b : List ℕ) (c v : ℕ) → Chosen sets c v → b ≡ out_of sets c v → sum b < sum sets
out_falls sets b c v k e = subst (λ (x : List ℕ). sum x < sum sets) (sym e) (out_total sets c v k.within k.there.1)

pub le_of_lt_le : {a b c d : ℕ} → a ≤ b → b < c → c ≤ d → a ≤ d
le_of_lt_le p q r = omega arith

-- the cell and the place as the code finds them
pub picks : {C : Type 0} (k : Machine C) (naming : Naming k) (m : BookMeaning) (listed : ℕ) (x : C) (s : State) (c v : ℕ)
    → c ≡ k.names x (figures_of m listed s.sets s.weights) → c ≢ 255 → Lowest (left_at s.sets c) v → Picks k m listed x s c v
picks k naming m listed x s c v e ne low =
    let choice : Choice k m listed x s c v = record { named = sym e; some = ne; place = low } in
    record { choice = choice; chosen = chosen k naming choice }

module _ {C : Type 0} {k : Machine C} {m : BookMeaning} {listed : ℕ} where
  pub try_first : {x y : C} {sets weights : List ℕ} {used c v p r : ℕ} {t : State} → p ≡ 2 ^ v → y ≡ k.told x (Failed c)
      → Fails m listed r (state (set sets c p) used weights) t → TryFails k m listed x (state sets used weights) c v y t
  try_first {x} {y} {sets} {weights} {used} {c} {v} {p} {r} {t} e d f =
      subst (λ (z : C). TryFails k m listed x (state sets used weights) c v z t) (sym d) (at_first (subst (λ (q : ℕ). Fails m listed r (state (set sets c q) used weights) t) e f))

  pub try_last : {x x' y y' : C} {sets weights : List ℕ} {used c v p : ℕ} {t u : State} → p ≡ 2 ^ v → x' ≡ k.told x (Stood c) → y' ≡ k.told y (Failed c)
      → Settles m listed (state (set sets c p) used weights) t → Explores k m listed x' t false y u → TryFails k m listed x (state sets used weights) c v y' u
  try_last {x} {x'} {y} {y'} {sets} {weights} {used} {c} {v} {p} {t} {u} e d d' f h =
      subst (λ (z : C). TryFails k m listed x (state sets used weights) c v z u) (sym d')
      (at_last (subst (λ (q : ℕ). Settles m listed (state (set sets c q) used weights) t) e f) (subst (λ (z : C). Explores k m listed z t false y u) d h))

  pub try_stands : {x x' y : C} {sets weights : List ℕ} {used c v p : ℕ} {t u : State} → p ≡ 2 ^ v → x' ≡ k.told x (Stood c)
      → Settles m listed (state (set sets c p) used weights) t → Explores k m listed x' t true y u → TryStands k m listed x (state sets used weights) c v y u
  try_stands {x} {x'} {y} {sets} {weights} {used} {c} {v} {p} {t} {u} e d f h = record {
    after = t;
    first = subst (λ (q : ℕ). Settles m listed (state (set sets c q) used weights) t) e f;
    then = subst (λ (z : C). Explores k m listed z t true y u) d h;
  }

  pub stands_on : {x y : C} {s u : State} {c v : ℕ} → Choice k m listed x s c v → TryStands k m listed x s c v y u → Explores k m listed x s true y u
  stands_on h a = stands h a.first a.then

  pub fails_on : {x y : C} {s b t u : State} {c v r : ℕ} → Choice k m listed x s c v → TryFails k m listed x s c v y t → b ≡ back s c v t → Fails m listed r b u
      → Explores k m listed x s false y u
  fails_on {u = u} {r = r} h f e p = ends h f (subst (λ (z : State). Fails m listed r z u) e p)

  pub goes_on_with : {x y z : C} {s b t u w : State} {c v : ℕ} {found : Bool} → Choice k m listed x s c v → TryFails k m listed x s c v y t → b ≡ back s c v t → Settles m listed b u
      → Explores k m listed y u found z w → Explores k m listed x s found z w
  goes_on_with {u = u} h f e p q = goes_on h f (subst (λ (z : State). Settles m listed z u) e p) q

-- ---- after a failed try: the sets from before it without its place
pub able_out : {sets : List ℕ} {work c v : ℕ} (b : List ℕ) → Able sets work → Chosen sets c v → b ≡ out_of sets c v → Able b work
able_out {sets} {work} {c} {v} b a k e =
    subst (λ (x : List ℕ). Able x work) (sym e)
    (able_sub (out_of sets c v) work a (length-set sets c (left_at sets c - 2 ^ v)) (open_full sets c v k.within k.opened k.there.1 a.full)
    (out_within sets c v k.within k.there.1) refl)

pub able_settled : {m : BookMeaning} {listed : ℕ} {s t : State} {work : ℕ} (work' : ℕ) → Able s.sets work → Settled m listed s t → work' ≡ work → Able t.sets work'
able_settled {t = t} work' a b ek = able_sub t.sets work' a b.long b.full b.inside ek
