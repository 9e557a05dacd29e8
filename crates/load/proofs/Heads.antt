-- What a field's tag and length alone decide. Assumes nothing.
use Rattle.std.proofs.Common.{◌≡◌, ℕ, ◌+◌, ◌*◌, ◌<◌, ◌≤◌, ◌≢◌, ◌⊎◌, List, [], ◌∷◌, length, get_or, drop, sym, refl, ap, ◌∙◌, subst, inl, inr, ⊎_elim, arith, length-drop}
use Rattle.std.proofs.lemmas.List.{drop_more, drop_all, nil_from_length}
use Rattle.sheets.specs.declared.fault.LoadFault.{LoadFault}
use Rattle.sheets.specs.declared.fault.LoadFault.TheVariants.{Cut, Tag as Misplaced, Many}
use Rattle.sheets.specs.declared.stores.Extent.{Extent}
use Rattle.sheets.specs.Sheet.{Sheet}
use Rattle.sheets.specs.Stored.{extent_of}
use Rattle.sheets.specs.Reading.{Fits, cell, rows, formula, end, Full, Wrong, no_end, bad_tag, long_end, after_end, cut_head, cut_content, too_many}
use Rattle.sheets.specs.declared.tag.Tag.{Tag}
use Rattle.sheets.specs.declared.tag.Tag.TheVariants.{Cell, Rows, Formula, End}
use Rattle.sheets.specs.Tags.{tag_byte}
use Rattle.load.specs.Fields.{Comes, Filled, Unfilled, Content, Headed}

-- the first byte, and the first three
first : (bs : List ℕ) (at : ℕ) → at < length bs → drop at bs ≡ get_or bs at 0 ∷ drop (at + 1) bs
first bs at h = drop_more bs at 0 h

three : (bs : List ℕ) (at : ℕ) → at + 3 ≤ length bs → drop at bs ≡ get_or bs at 0 ∷ get_or bs (at + 1) 0 ∷ get_or bs (at + 2) 0 ∷ drop (at + 3) bs
three bs at h =
    let b : at + 1 + 1 ≡ at + 2 = omega arith in
    let c : at + 2 + 1 ≡ at + 3 = omega arith in
    first bs at (omega arith)
    ∙ ap (λ l. get_or bs at 0 ∷ l) (first bs (at + 1) (omega arith) ∙ ap (λ k. get_or bs (at + 1) 0 ∷ drop k bs) b)
    ∙ ap (λ l. get_or bs at 0 ∷ get_or bs (at + 1) 0 ∷ l) (first bs (at + 2) (omega arith) ∙ ap (λ k. get_or bs (at + 2) 0 ∷ drop k bs) c)

module _ (s : Sheet) (e : Extent) (is : e ≡ extent_of s) where
  same_rules : e.rules ≡ length s.rows
  same_rules = ap (λ (x : Extent). x.rules) is

  same_formulas : e.formulas ≡ length s.formulas
  same_formulas = ap (λ (x : Extent). x.formulas) is

  same_cells : e.cells ≡ length s.lists
  same_cells = ap (λ (x : Extent). x.cells) is

  comes_fits : (t : Tag) → Comes t e → Fits s (tag_byte t)
  comes_fits Cell h = cell (nil_from_length s.rows (sym same_rules ∙ h.0)) (nil_from_length s.formulas (sym same_formulas ∙ h.1))
  comes_fits Rows h = rows (nil_from_length s.formulas (sym same_formulas ∙ h))
  comes_fits Formula h = formula
  comes_fits End h = end

  fits_any : (t : Tag) (b : ℕ) → b ≡ tag_byte t → Fits s b → Comes t e
  fits_any Cell b i (cell p q) = (same_rules ∙ ap length p, same_formulas ∙ ap length q)
  fits_any Cell b i (rows q) = absurd (omega (arith, i))
  fits_any Cell b i formula = absurd (omega (arith, i))
  fits_any Cell b i end = absurd (omega (arith, i))
  fits_any Rows b i (cell p q) = absurd (omega (arith, i))
  fits_any Rows b i (rows q) = same_formulas ∙ ap length q
  fits_any Rows b i formula = absurd (omega (arith, i))
  fits_any Rows b i end = absurd (omega (arith, i))
  fits_any Formula b i f = tt
  fits_any End b i f = tt

  no_fits : (b : ℕ) → ((t : Tag) → b ≢ tag_byte t) → Fits s b → ⊥
  no_fits b n (cell p q) = n Cell refl
  no_fits b n (rows q) = n Rows refl
  no_fits b n formula = n Formula refl
  no_fits b n end = n End refl

  filled_full : (t : Tag) → Filled t e → Full s (tag_byte t)
  filled_full Cell h = inl (refl, sym same_cells ∙ h)
  filled_full Rows h = inr ((λ z. omega (arith, z)), omega (arith, h, same_rules, same_formulas))
  filled_full Formula h = inr ((λ z. omega (arith, z)), omega (arith, h, same_rules, same_formulas))
  filled_full End h = absurd h

  full_filled : (t : Tag) → tag_byte t ≢ 4 → Full s (tag_byte t) → Filled t e
  full_filled Cell n f = ⊎_elim (λ a. same_cells ∙ a.1) (λ a. absurd (a.0 refl)) f
  full_filled Rows n f = ⊎_elim (λ a. absurd (omega (arith, a.0))) (λ a. omega (arith, a.1, same_rules, same_formulas)) f
  full_filled Formula n f = ⊎_elim (λ a. absurd (omega (arith, a.0))) (λ a. omega (arith, a.1, same_rules, same_formulas)) f
  full_filled End n f = absurd (n refl)

  module _ (file : List ℕ) (at : ℕ) where
    wrong_at : (bs : List ℕ) (f : LoadFault) → drop at file ≡ bs → Wrong s at bs f → Wrong s at (drop at file) f
    wrong_at bs f i w = subst (λ l. Wrong s at l f) (sym i) w

    pub past : length file ≤ at → Wrong s at (drop at file) (Cut at)
    past h = wrong_at [] (Cut at) (drop_all at file h) no_end

    -- its first byte
    module _ (byte : ℕ) (there : (at < length file) × ((d : ℕ) → byte ≡ get_or file at d)) where
      from_byte : drop at file ≡ byte ∷ drop (at + 1) file
      from_byte = first file at there.0 ∙ ap (λ x. x ∷ drop (at + 1) file) (sym (there.1 0))

      pub no_tag : ((t : Tag) → byte ≢ tag_byte t) → Wrong s at (drop at file) (Misplaced at)
      no_tag n = wrong_at _ _ from_byte (bad_tag (no_fits byte n))

      -- which is a tag
      module _ (t : Tag) (b : byte ≡ tag_byte t) where
        pub misplaced : (Comes t e → ⊥) → Wrong s at (drop at file) (Misplaced at)
        misplaced n = wrong_at _ _ from_byte (bad_tag (λ f. n (fits_any t byte b f)))

        pub cut : Comes t e → length file < at + 3 → Wrong s at (drop at file) (Cut at)
        cut c short = wrong_at _ _ from_byte (cut_head (subst (Fits s) (sym b) (comes_fits t c)) (omega (arith, length-drop (at + 1) file)))

        abbrev high : ℕ
        high = get_or file (at + 1) 0

        abbrev low : ℕ
        low = get_or file (at + 2) 0

        -- its length as it was read
        module _ (size : ℕ) (read : size ≡ high * 256 + low) (room : at + 3 ≤ length file) where
          bytes : drop at file ≡ tag_byte t ∷ high ∷ low ∷ drop (at + 3) file
          bytes = three file at room ∙ ap (λ x. x ∷ high ∷ low ∷ drop (at + 3) file) (sym (there.1 0) ∙ b)

          pub long : tag_byte t ≡ 4 → size ≢ 0 → Wrong s at (drop at file) (Misplaced at)
          long i n = wrong_at _ _ (bytes ∙ ap (λ x. x ∷ high ∷ low ∷ drop (at + 3) file) i) (long_end (λ z. n (read ∙ z)))

          pub beyond : tag_byte t ≡ 4 → size ≡ 0 → at + 3 < length file → Wrong s at (drop at file) (Misplaced (at + 3))
          beyond i z more =
              let h : high ≡ 0 = omega arith in
              let l : low ≡ 0 = omega arith in
              wrong_at _ _ (bytes ∙ (λ k. i k ∷ h k ∷ l k ∷ first file (at + 3) more k)) after_end

          pub ended : tag_byte t ≡ 4 → size ≡ 0 → length file ≡ at + 3 → drop at file ≡ 4 ∷ 0 ∷ 0 ∷ []
          ended i z last =
              let h : high ≡ 0 = omega arith in
              let l : low ≡ 0 = omega arith in
              bytes ∙ (λ k. i k ∷ h k ∷ l k ∷ drop_all (at + 3) file (omega arith) k)

          pub short : tag_byte t ≢ 4 → Comes t e → length file < at + 3 + size → Wrong s at (drop at file) (Cut at)
          short n c less = wrong_at _ _ bytes (cut_content (comes_fits t c) n (omega (arith, length-drop (at + 3) file)))

          pub surplus : tag_byte t ≢ 4 → Comes t e → at + 3 + size ≤ length file → Filled t e → Wrong s at (drop at file) (Many at)
          surplus n c fits f = wrong_at _ _ bytes (too_many (comes_fits t c) n (omega (arith, length-drop (at + 3) file)) (filled_full t f))

          pub content : tag_byte t ≢ 4 → Comes t e → at + 3 + size ≤ length file → (Filled t e → ⊥) → Content s (drop at file) (tag_byte t) size
          content n c fits f = record {
            high = high;
            low = low;
            rest = drop (at + 3) file;
            is = bytes;
            long = read;
            whole = omega (arith, length-drop (at + 3) file);
            fits = comes_fits t c;
            room = λ x. f (full_filled t n x);
          }

-- one more is not too many
pub unfilled : (t : Tag) (e : Extent) → e.cells ≤ 64 → e.rules + e.formulas ≤ 64 → (Filled t e → ⊥) → Unfilled t e
unfilled Cell e c r n = let ne : e.cells ≢ 64 = n in omega arith
unfilled Rows e c r n = let ne : e.rules + e.formulas ≢ 64 = n in omega arith
unfilled Formula e c r n = let ne : e.rules + e.formulas ≢ 64 = n in omega arith
unfilled End e c r n = tt

-- what comes next, by its tag
pub headed : {s : Sheet} {bs : List ℕ} {n : ℕ} (t : Tag) → tag_byte t ≢ 4 → Content s bs (tag_byte t) n → Headed s bs t n
headed Cell n c = c
headed Rows n c = c
headed Formula n c = c
headed End n c = absurd (n refl)

pub headed_end : (s : Sheet) {bs : List ℕ} (n : ℕ) (t : Tag) → t ≡ End → bs ≡ 4 ∷ 0 ∷ 0 ∷ [] → Headed s bs t n
headed_end s {bs} n t i e = subst (λ x. Headed s bs x n) (sym i) e

pub unfilled_end : (t : Tag) (e : Extent) → t ≡ End → Unfilled t e
unfilled_end t e i = subst (λ x. Unfilled x e) (sym i) tt

pub not_end : (t : Tag) → (t ≡ Cell) ⊎ ((t ≡ Rows) ⊎ (t ≡ Formula)) → tag_byte t ≢ 4
not_end t i z = ⊎_elim (λ a. omega (arith, ap tag_byte a, z)) (λ b. ⊎_elim (λ a. omega (arith, ap tag_byte a, z)) (λ a. omega (arith, ap tag_byte a, z)) b) i
