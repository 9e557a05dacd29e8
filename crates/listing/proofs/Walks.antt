-- A file walked field by field. Assumes nothing.
use Rattle.std.proofs.Common.{◌≡◌, ℕ, ◌+◌, ◌*◌, ◌/◌, ◌%◌, ◌^◌, ◌<◌, min, cond, eqb, List, [], ◌∷◌, ◌++◌, length, get_or, take, drop, sym, ap, ◌∙◌, ap₂, subst, append_assoc, append-nil, arith, length-append}
use Rattle.std.specs.List.{flat_map}
use Rattle.std.proofs.lemmas.List.{take_at, drop_at}
use Rattle.std.proofs.lemmas.Bool.{cond_both}
use Rattle.sheets.specs.Sheet.{Field, field_bytes}
use Rattle.listing.specs.Listing.{text_line, field_line, formula_lines}

-- the fields that are left, and that their lines finish the text
pub record Left (text : List ℕ) (rest out : List ℕ) (number : ℕ) : Type 0 where
  pub fields : List Field
  pub few : number + length fields < 2 ^ 64
  pub said : rest ≡ flat_map field_bytes fields
  pub finishes : text ≡ out ++ formula_lines number fields

pub left_done : (text rest out : List ℕ) (number : ℕ) → length rest < 3 → Left text rest out number → text ≡ out
left_done text rest out number short l = go l.fields l.said l.finishes
  where
    go : (fs : List Field) → rest ≡ flat_map field_bytes fs → text ≡ out ++ formula_lines number fs → text ≡ out
    go [] e h = h ∙ append-nil out
    go (f ∷ fs) e h = absurd (omega (arith, ap length e, length-append (field_bytes f) (flat_map field_bytes fs)))

-- a whole field: its first three bytes, and the size that they give, cut off at what follows them
pub left_more : (text rest out head tail content others after : List ℕ) (number size n : ℕ) → head ≡ take 3 rest → tail ≡ drop 3 rest → length tail + 3 ≡ length rest
    → size ≡ min (256 * get_or head 1 0 + get_or head 2 0) (length tail) → content ≡ take size tail → others ≡ drop size tail
    → after ≡ out ++ cond (eqb (get_or head 0 0) 3) (text_line number content) []
    → (number + 1 < 2 ^ 64 → n ≡ cond (eqb (get_or head 0 0) 3) (number + 1) number)
    → Left text rest out number → Left text others after n
left_more text rest out head tail content others after number size n heads tails long es front back wrote next left = go left.fields left.few left.said left.finishes
  where
    go : (fs : List Field) → number + length fs < 2 ^ 64 → rest ≡ flat_map field_bytes fs → text ≡ out ++ formula_lines number fs → Left text others after n
    go [] few e f = absurd (omega (arith, ap length e))
    go (f ∷ fs) few e fin =
        let c = f.content in
        let more = flat_map field_bytes fs in
        let h : head ≡ f.tag ∷ (length c / 256 ∷ (length c % 256 ∷ [])) = heads ∙ ap (take 3) e in
        let t : tail ≡ c ++ more = tails ∙ ap (drop 3) e in
        let s : size ≡ length c = omega (arith, ap (λ (x : List ℕ). get_or x 1 0) h, ap (λ (x : List ℕ). get_or x 2 0) h, ap length t, length-append c more) in
        let is : content ≡ c = front ∙ ap (take size) t ∙ take_at c more size (sym s) in
        let tag : get_or head 0 0 ≡ f.tag = ap (λ (x : List ℕ). get_or x 0 0) h in
        let line : after ≡ out ++ field_line number f = wrote ∙ ap₂ (λ x y. out ++ cond (eqb x 3) (text_line number y) []) tag is in
        let m : n ≡ cond (eqb f.tag 3) (number + 1) number = next (omega arith) ∙ ap (λ x. cond (eqb x 3) (number + 1) number) tag in
        record {
          fields = fs;
          few = subst (λ x. x + length fs < 2 ^ 64) (sym m) (cond_both (eqb f.tag 3) (number + 1) number (λ x. x + length fs < 2 ^ 64) (λ _. omega arith) (λ _. omega arith));
          said = back ∙ ap (drop size) t ∙ drop_at c more size (sym s);
          finishes = fin ∙ sym (append_assoc out (field_line number f) (formula_lines (cond (eqb f.tag 3) (number + 1) number) fs))
              ∙ ap (λ x. x ++ formula_lines (cond (eqb f.tag 3) (number + 1) number) fs) (sym line) ∙ ap (λ x. after ++ formula_lines x fs) (sym m);
        }
