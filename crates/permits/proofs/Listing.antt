-- Numbers one after another. Assumes nothing.
use Rattle.std.proofs.Common.{◌≡◌, ℕ, ◌+◌, ◌-◌, ◌≤◌, List, [], ◌∷◌, ◌++◌, length, take, replicate, ℤ, pos, sym, ap, ◌∙◌, subst, append_assoc, arith, length-append}
use Rattle.std.proofs.lemmas.List.{take_all}
use Rattle.permits.specs.Lists.{Follows, Listed, none, more, Adds}

pub listed_few : {xs : List ℤ} → Listed xs → length xs ≤ 64
listed_few none = omega arith
listed_few (more {xs} {z} l f) = omega (arith, f.room, length-append xs (z ∷ []))

pub listed_more : {xs ws ys : List ℤ} {z : ℤ} → Listed xs → ws ≡ xs → Follows ws z → ys ≡ xs ++ (z ∷ []) → Listed ys
listed_more {z = z} l same f e = subst Listed (sym e) (more l (subst (λ v. Follows v z) same f))

pub adds : (xs : List ℤ) (ls : List ℕ) (ns : List ℤ) (ls' : List ℕ) (mid ns' : List ℤ) (n len : ℕ) → ls' ≡ ls ++ (length xs ∷ []) → mid ≡ ns ++ xs → len ≡ length mid → n ≡ len + (64 - length xs) → ns' ≡ take n mid ++ replicate (n - len) (pos 0) → Adds xs ls ns ls' ns'
adds xs ls ns ls' mid ns' n len e f l g h =
    let k : n - len ≡ 64 - length xs = omega arith in
    record {
      counts = e;
      keeps = h ∙ ap (λ i. take n mid ++ replicate i (pos 0)) k ∙ ap (λ m. m ++ replicate (64 - length xs) (pos 0)) (take_all n mid (omega arith) ∙ f) ∙ append_assoc ns xs (replicate (64 - length xs) (pos 0));
    }
