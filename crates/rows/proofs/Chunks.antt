-- A test that is asked of the chunks of a list, one after another, until one decides. Assumes nothing.
use Rattle.std.proofs.Common.{◌≡◌, ℕ, suc, ◌*◌, ◌/◌, ◌<◌, Bool, true, false, List, [], ◌∷◌, length, take, drop, Decides, sym, refl, subst, arith}
use Rattle.std.proofs.Math.Nat.{suc-mul}
use Rattle.std.proofs.lemmas.Nat.{le-div}
use Rattle.std.proofs.lemmas.Bool.{false≢true}
use Rattle.std.specs.Prelude.{IfSome, IsSomeAnd, IsSome, MatchBool, Some, None}
use Rattle.std.specs.Option.{option_map}
use Rattle.std.specs.declared.option.Option.{Option}
use Rattle.std.specs.Fn.{Called}
use Rattle.std.specs.Iterator.Runs.{Run, EveryRun, AnyItemGives, AllItemsGive, IsChunksExactRun, CallKeepsClosure}
use Rattle.std.specs.Slice.Iter.{chunks_exact_steps, chunks_exact_size, chunks_exact_rest}
use denote.Param.Members.{Mut}
use denote.Ref.{Bor}

-- two facts of an item that is there
both : {A : Type 0} (o : Option A) {P Q : A → Type 0} → IsSomeAnd o P → IfSome o Q → (x : A) × P x × Q x
both None p q = absurd p
both (Some x) p q = (x, p, q)

found : {A : Type 0} (o : Option A) {x : A} → option_map (λ y. y) o ≡ Some x → IsSome o
found None e = subst IsSome (sym e) refl
found (Some x) e = refl

both_found : {A : Type 0} (o : Option A) {P Q : A → Type 0} → IsSome o → IfSome o P → IfSome o Q → (x : A) × P x × Q x
both_found None e p q = absurd (false≢true e)
both_found (Some x) e p q = (x, p, q)

first : {A : Type 0} (xs : List A) → 0 < length xs → A
first [] h = absurd (omega arith)
first (x ∷ xs) h = x

-- p is a run over the chunks of n elements of xs, f the test, which stands for P
module _ {A F : Type 0} (p : Run (chunks_exact_steps {A = A})) (s : _) (from : p.from ≡ s)
    (runs : EveryRun (chunks_exact_steps {A = A}) (λ p. 0 < chunks_exact_size p.from → IsChunksExactRun p (chunks_exact_size p.from) (chunks_exact_rest p.from)))
    (n : ℕ) (xs : List A) (pos : 0 < n) (size : chunks_exact_size s ≡ n) (rest : chunks_exact_rest s ≡ xs)
    (g : Mut F (Bor (List A) × Unit {0}) Bool) (f : F) (keeps : CallKeepsClosure g f)
    (P : List A → Type 0) (tells : (x : Bor (List A)) (r : Bool) → length x.now ≡ n → Called g f (x, tt) r f → Decides r (P x.now)) where
  chunks : IsChunksExactRun p n xs
  chunks = subst (λ ys. IsChunksExactRun p n ys) rest
      (subst (λ m. IsChunksExactRun p m (chunks_exact_rest s)) size
      (subst (λ t. 0 < chunks_exact_size t → IsChunksExactRun p (chunks_exact_size t) (chunks_exact_rest t)) from (runs p p.seen) (omega (arith, size))))

  abbrev chunk : ℕ → List A
  chunk j = take n (drop (j * n) xs)

  pub any_chunk : (r : Bool) → MatchBool r (AnyItemGives p g f true) ((p.whole ≡ true) × AllItemsGive p g f false) → Decides r ((j : ℕ) × (j < length xs / n) × P (chunk j))
  any_chunk true some = (
    (λ _.
        let at = some keeps in
        let item = both (p.at at.0) at.2 (chunks.2 at.0) in (
          at.0,
          le-div (suc at.0) (length xs) n pos (omega (arith, suc-mul at.0 n, item.2.1)),
          subst P item.2.2.0 ((tells item.0 true item.2.0 item.1).0 refl),
        )),
    (λ _. refl),
  )
  any_chunk false none = (
    (λ e. absurd (false≢true e)),
    (λ j.
        let long : p.len ≡ length xs / n = chunks.1 none.0 in
        let item = both_found (p.at j.0) (found (p.at j.0) (p.reads j.0 (first p.items (omega (arith, p.long, j.1))) (omega arith))) (none.1 keeps j.0) (chunks.2 j.0) in
        (tells item.0 false item.2.0 item.1).1 (subst P (sym item.2.2.0) j.2)),
  )

  -- each chunk is asked, until one fails
  pub all_chunks : (r : Bool) → MatchBool r ((p.whole ≡ true) × AllItemsGive p g f true) (AnyItemGives p g f false) → Decides r ((j : ℕ) → j < length xs / n → P (chunk j))
  all_chunks true all = (
    (λ _ j h.
        let long : p.len ≡ length xs / n = chunks.1 all.0 in
        let item = both_found (p.at j) (found (p.at j) (p.reads j (first p.items (omega (arith, p.long, h))) (omega arith))) (all.1 keeps j) (chunks.2 j) in
        subst P item.2.2.0 ((tells item.0 true item.2.0 item.1).0 refl)),
    (λ _. refl),
  )
  all_chunks false some = (
    (λ e. absurd (false≢true e)),
    (λ all.
        let at = some keeps in
        let item = both (p.at at.0) at.2 (chunks.2 at.0) in
        let low : at.0 < length xs / n = le-div (suc at.0) (length xs) n pos (omega (arith, suc-mul at.0 n, item.2.1)) in
        (tells item.0 false item.2.0 item.1).1 (subst P (sym item.2.2.0) (all at.0 low))),
  )
