-- Fields one after another: bytes determine them. Assumes nothing.
use Rattle.std.proofs.Common.{◌≡◌, ℕ, ◌<◌, ◌⊎◌, List, [], ◌∷◌, ◌++◌, length, sym, refl, ◌∙◌, inl, inr, ⊎_elim, append_assoc, arith}
use Rattle.std.specs.List.{flat_map}
use Rattle.sheets.specs.Sheet.{Field, field_bytes}

-- two lists that begin with as many elements
pub same_front : {X : Type 0} (a b r t : List X) → length a ≡ length b → a ++ r ≡ b ++ t → (a ≡ b) × (r ≡ t)
same_front [] [] r t l e = (refl, e)
same_front [] (y ∷ b) r t l e = absurd (omega arith)
same_front (x ∷ a) [] r t l e = absurd (omega arith)
same_front (x ∷ a) (y ∷ b) r t l e =
    let h : x ≡ y = cc in
    let q : a ++ r ≡ b ++ t = cc in
    let i = same_front a b r t (omega arith) q in
    ((λ k. h k ∷ i.0 k), i.1)

pub byte : (x y : ℕ) (s t : List ℕ) → x ∷ s ≡ y ∷ t → (x ≡ y) × (s ≡ t)
byte x y s t e = (cc, cc)

-- the content of a field can be that long
abbrev pub Short : Field → Type 0
Short f = length f.content < 65536

pub field_unique : (f g : Field) (r t : List ℕ) → field_bytes f ++ r ≡ field_bytes g ++ t → (f ≡ g) × (r ≡ t)
field_unique f g r t e =
    let a = byte _ _ _ _ e in
    let b = byte _ _ _ _ a.1 in
    let c = byte _ _ _ _ b.1 in
    let l : length f.content ≡ length g.content = omega (arith, b.0, c.0) in
    let d = same_front f.content g.content r t l c.1 in
    ((λ i. record { tag = a.0 i; content = d.0 i }), d.1)

-- of two sequences of fields that the same bytes begin with, one begins with the other
pub fields_split : (fs gs : List Field) (r t : List ℕ) → flat_map field_bytes fs ++ r ≡ flat_map field_bytes gs ++ t
    → ((hs : List Field) × (fs ≡ gs ++ hs) × (t ≡ flat_map field_bytes hs ++ r)) ⊎ ((hs : List Field) × (gs ≡ fs ++ hs) × (r ≡ flat_map field_bytes hs ++ t))
fields_split [] gs r t e = inr (gs, refl, e)
fields_split (f ∷ fs) [] r t e = inl (f ∷ fs, refl, sym e)
fields_split (f ∷ fs) (g ∷ gs) r t e =
    let e₁ : field_bytes f ++ (flat_map field_bytes fs ++ r) ≡ field_bytes g ++ (flat_map field_bytes gs ++ t) =
    sym (append_assoc (field_bytes f) (flat_map field_bytes fs) r) ∙ e ∙ append_assoc (field_bytes g) (flat_map field_bytes gs) t in
    let u = field_unique f g (flat_map field_bytes fs ++ r) (flat_map field_bytes gs ++ t) e₁ in
    ⊎_elim
    (λ q. inl (q.0, (λ i. u.0 i ∷ q.1 i), q.2))
    (λ q. inr (q.0, (λ i. sym u.0 i ∷ q.1 i), q.2))
    (fields_split fs gs r t u.1)
