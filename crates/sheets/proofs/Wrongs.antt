-- A good field is not refused. Assumes nothing.
use Rattle.std.proofs.Common.{◌≡◌, ℕ, ◌+◌, ◌*◌, ◌/◌, ◌%◌, ◌≤◌, List, [], ◌∷◌, ◌++◌, length, ℤ, sym, refl, ap, ◌∙◌, subst, arith, length-append}
use Rattle.formulas.specs.declared.fault.Flaw.{Flaw}
use Rattle.formulas.specs.Tree.{text}
use Rattle.formulas.specs.Faults.{First}
use Rattle.formulas.proofs.Exact.{accepted_not_refused}
use Rattle.sheets.specs.declared.fault.LoadFault.{LoadFault}
use Rattle.sheets.specs.Sheet.{Sheet, RowsField, Field, field_bytes, list_bytes, rows_bytes, GoodList, GoodRows}
use Rattle.sheets.specs.Reading.{Fits, Full, Wrong, no_end, bad_tag, long_end, after_end, cut_head, cut_content, too_many, bad_list, bad_rows, bad_formula}
use Rattle.sheets.proofs.Fields.{same_front, byte}
use Rattle.sheets.proofs.Adds.{Adds, adds_list, adds_rows, adds_formula, adds_fits, adds_not_end, adds_not_full}

-- what begins with three bytes and as much content as they say
content_is : (f : Field) (h l : ℕ) (c r t : List ℕ) → length c ≡ h * 256 + l → h ∷ l ∷ (c ++ r) ≡ length f.content / 256 ∷ length f.content % 256 ∷ (f.content ++ t) → c ≡ f.content
content_is f h l c r t n e =
    let a = byte _ _ _ _ e in
    let b = byte _ _ _ _ a.1 in
    (same_front c f.content r t (omega (arith, a.0, b.0)) b.1).0

not_list : {s t : Sheet} {f : Field} → Adds s f t → 1 ≡ f.tag → ((zs : List ℤ) → GoodList zs → f.content ≡ list_bytes zs → ⊥) → ⊥
not_list (adds_list zs e q few g) is none = none zs g refl
not_list (adds_rows x q few g) is none = omega (arith, is)
not_list (adds_formula c few g) is none = omega (arith, is)

not_rows : {s t : Sheet} {f : Field} → Adds s f t → 2 ≡ f.tag → ((x : RowsField) → GoodRows s.lists x → f.content ≡ rows_bytes x → ⊥) → ⊥
not_rows (adds_list zs e q few g) is none = omega (arith, is)
not_rows (adds_rows x q few g) is none = none x g refl
not_rows (adds_formula c few g) is none = omega (arith, is)

not_formula : {s t : Sheet} {f : Field} → length s.lists ≤ 64 → Adds s f t → 3 ≡ f.tag → (g : Flaw) (j : ℕ) → First (length s.lists) f.content g j → ⊥
not_formula many (adds_list zs e q few good) is g j h = omega (arith, is)
not_formula many (adds_rows x q few good) is g j h = omega (arith, is)
not_formula {s} many (adds_formula c few good) is g j h = accepted_not_refused (length s.lists) (text c) c g j (omega arith) good h

-- a good field does not begin what is refused
pub good_not_wrong : {s t : Sheet} {f : Field} {k : ℕ} {bs : List ℕ} {e : LoadFault} → length s.lists ≤ 64 → Adds s f t → (r : List ℕ) → bs ≡ field_bytes f ++ r → Wrong s k bs e → ⊥
good_not_wrong many a r is no_end = let z : ◌≡◌ {A = ℕ} 0 1 = cc in omega arith
good_not_wrong {s} many a r is (bad_tag n) = n (subst (Fits s) (sym (byte _ _ _ _ is).0) (adds_fits a))
good_not_wrong many a r is (long_end n) = adds_not_end a (sym (byte _ _ _ _ is).0)
good_not_wrong many a r is after_end = adds_not_end a (sym (byte _ _ _ _ is).0)
good_not_wrong {f = f} many a r is (cut_head fits short) = omega (arith, ap length (byte _ _ _ _ is).1)
good_not_wrong {f = f} many a r is (cut_content fits ne short) =
    let x = byte _ _ _ _ is in
    let y = byte _ _ _ _ x.1 in
    let z = byte _ _ _ _ y.1 in
    omega (arith, y.0, z.0, ap length z.1, length-append f.content r)
good_not_wrong {s} many a r is (too_many fits ne room full) = adds_not_full a (subst (Full s) (byte _ _ _ _ is).0 full)
good_not_wrong {f = f} many a r is (bad_list {h = h} {l = l} c t fits nf n none) =
    let x = byte _ _ _ _ is in
    let same = content_is f h l c t r n x.1 in
    not_list a x.0 (λ zs g e. none zs g (same ∙ e))
good_not_wrong {f = f} many a r is (bad_rows {h = h} {l = l} c t fits nf n none) =
    let x = byte _ _ _ _ is in
    let same = content_is f h l c t r n x.1 in
    not_rows a x.0 (λ y g e. none y g (same ∙ e))
good_not_wrong {s} {f = f} many a r is (bad_formula {h = h} {l = l} {j = j} {f = g} c t nf n first) =
    let x = byte _ _ _ _ is in
    let same = content_is f h l c t r n x.1 in
    not_formula many a x.0 g j (subst (λ b. First (length s.lists) b g j) same first)

-- nor does a lone end field
pub end_not_wrong : {s : Sheet} {k : ℕ} {bs : List ℕ} {e : LoadFault} → bs ≡ 4 ∷ 0 ∷ 0 ∷ [] → Wrong s k bs e → ⊥
end_not_wrong is no_end = let z : ◌≡◌ {A = ℕ} 0 1 = cc in omega arith
end_not_wrong {s} is (bad_tag n) = n (subst (Fits s) (sym (byte _ _ _ _ is).0) Rattle.sheets.specs.Reading.end)
end_not_wrong is (long_end n) = let y = byte _ _ _ _ (byte _ _ _ _ is).1 in let z = byte _ _ _ _ y.1 in n (omega (arith, y.0, z.0))
end_not_wrong is after_end = omega (arith, ap length is)
end_not_wrong is (cut_head fits short) = omega (arith, ap length is)
end_not_wrong is (cut_content fits ne short) = ne (byte _ _ _ _ is).0
end_not_wrong is (too_many fits ne room full) = ne (byte _ _ _ _ is).0
end_not_wrong is (bad_list c t fits nf n none) = omega (arith, (byte _ _ _ _ is).0)
end_not_wrong is (bad_rows c t fits nf n none) = omega (arith, (byte _ _ _ _ is).0)
end_not_wrong is (bad_formula c t nf n first) = omega (arith, (byte _ _ _ _ is).0)
