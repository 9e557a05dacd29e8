-- A rows rule read part by part. Assumes nothing.
use Rattle.std.proofs.Common.{◌≡◌, ℕ, zero, suc, ◌+◌, ◌*◌, ◌/◌, ◌%◌, ◌<◌, ◌≤◌, Bool, false, List, [], ◌∷◌, ◌++◌, map, length, get_or, take, drop, ℤ, Decides, sym, refl, ap, ◌∙◌, subst, mul-le-mul_right, suc-mul, zero-add, mul-div_cancel, arith, length-append}
use native.Mathlib.Nat.{mul-mod_left}
use Rattle.std.specs.List.{flat_map}
use Rattle.std.proofs.lemmas.List.{append-nil, nil_from_length, take-append-drop, drop-drop, length-drop, length-take-le, length-map, get_or-map}
use Rattle.std.proofs.lemmas.Bool.Decides.{not_from_Decides}
use Rattle.rows.specs.declared.rule.Kind.{Kind}
use Rattle.rows.specs.declared.rule.RowsRule.{RowsRule}
use Rattle.sheets.specs.declared.fault.RuleFault.TheVariants.{Rows as RowsFault}
use Rattle.sheets.specs.Sheet.{RowsField, kind_byte, rows_bytes, GoodRow, GoodRows}
use Rattle.sheets.specs.Stored.{places_of, filled}
use Rattle.sheets.proofs.Fields.{byte, same_front}
use Rattle.sheets.proofs.Wide.{Wide, run, run_length, row_part}
use Rattle.load.specs.Read.{ReadRows, NoRows}
use Rattle.network.specs.Cells.{Listed}
use Rattle.load.specs.Parts.{Splits}

-- row i of some bytes in rows of width w
abbrev pub row_at : ℕ → List ℕ → ℕ → List ℕ
row_at w bytes i = take w (drop (i * w) bytes)

pub row_within : (count w i : ℕ) → i < count → i * w + w ≤ count * w
row_within count w i h = omega (arith, suc-mul i w, mul-le-mul_right {m = suc i} {n = count} w h)

next_row : (w i : ℕ) (bytes : List ℕ) → drop (suc i * w) bytes ≡ drop (i * w) (drop w bytes)
next_row w i bytes = let e : suc i * w ≡ w + i * w = omega (arith, suc-mul i w) in ap (λ n. drop n bytes) e ∙ sym (drop-drop (i * w) w bytes)

-- bytes in so many rows
abbrev cut : ℕ → ℕ → List ℕ → List (List ℕ)
cut zero w bytes = []
cut (suc n) w bytes = take w bytes ∷ cut n w (drop w bytes)

length_cut : (n w : ℕ) (bytes : List ℕ) → length (cut n w bytes) ≡ n
length_cut zero w bytes = refl
length_cut (suc n) w bytes = ap suc (length_cut n w (drop w bytes))

joined_cut : (n w : ℕ) (bytes : List ℕ) → length bytes ≡ n * w → flat_map (λ row. row) (cut n w bytes) ≡ bytes
joined_cut zero w bytes h = sym (nil_from_length bytes (omega arith))
joined_cut (suc n) w bytes h = ap (λ l. take w bytes ++ l) (joined_cut n w (drop w bytes) (omega (arith, suc-mul n w, length-drop w bytes))) ∙ take-append-drop w bytes

item_cut : (n w : ℕ) (bytes : List ℕ) (i : ℕ) → i < n → get_or (cut n w bytes) i [] ≡ row_at w bytes i
item_cut zero w bytes i h = absurd (omega arith)
item_cut (suc n) w bytes zero h = let e : 0 ≡ 0 * w = omega arith in ap (λ m. take w (drop m bytes)) e
item_cut (suc n) w bytes (suc i) h = item_cut n w (drop w bytes) i (omega arith) ∙ ap (take w) (sym (next_row w i bytes))

row_joined : (w : ℕ) (rs : List (List ℕ)) (i : ℕ) → Wide w rs → i < length rs → row_at w (run rs) i ≡ get_or rs i []
row_joined w rs i h l = ap (λ n. take w (drop n (run rs))) (sym (zero-add (i * w))) ∙ row_part w rs 0 [] [] (run rs) h refl (sym (append-nil (run rs))) i l

-- what a headed content has at its front
pub head_width : (content : List ℕ) (count : ℕ) (kind : Kind) (cells rest : List ℕ) → Splits content count kind cells rest → (get_or content 1 0 ≡ length cells) × (length cells + length rest + 2 ≡ length content)
head_width content count kind cells rest h = (ap (λ (l : List ℕ). get_or l 1 0) h.said, omega (arith, ap length h.said, length-append cells rest))

-- a good rows rule's content is headed by its parts
pub good_headed : (content lengths : List ℕ) (lists : List (List ℤ)) (x : RowsField) → map length lists ≡ lengths → GoodRows lists x → content ≡ rows_bytes x
    → Splits content (length lengths) x.kind x.cells (places_of x)
good_headed content lengths lists x e g s = record {
  said = s;
  some = g.some;
  few = g.few;
  known = λ k h. omega (arith, g.known k h, ap length e, length-map lists length);
  apart = g.apart;
}

-- the parts are those of the content
pub parts_same : (content : List ℕ) (n m : ℕ) (k l : Kind) (cs ds rs ts : List ℕ) → Splits content n k cs rs → Splits content m l ds ts → (cs ≡ ds) × (rs ≡ ts)
parts_same content n m k l cs ds rs ts h i =
    let a = byte _ _ _ _ (sym h.said ∙ i.said) in
    let b = byte _ _ _ _ a.1 in
    same_front cs ds rs ts b.0 b.1

pub no_head : (content lengths : List ℕ) (tag : ℕ) → ((kind : Kind) (cells rest : List ℕ) → Splits content (length lengths) kind cells rest → ⊥) → NoRows content lengths tag (RowsFault tag)
no_head content lengths tag none = record { fault_is = refl; none = λ lists e x g s. none x.kind x.cells (places_of x) (good_headed content lengths lists x e g s) }

-- what follows the cells of a good rows rule's content
pub good_rest : (content lengths : List ℕ) (n : ℕ) (kind : Kind) (cells rest : List ℕ) (lists : List (List ℤ)) (x : RowsField)
    → Splits content n kind cells rest → map length lists ≡ lengths → GoodRows lists x → content ≡ rows_bytes x
    → (length rest ≡ length x.rows * length cells) × ((i : ℕ) → i < length x.rows → Listed lengths cells (row_at (length cells) rest i))
good_rest content lengths n kind cells rest lists x h e g s =
    let same = parts_same content n (length lengths) kind x.kind cells x.cells rest (places_of x) h (good_headed content lengths lists x e g s) in
    let wide : Wide (length x.cells) x.rows = λ i l. (g.rows i l).wide in (
      ap length same.1 ∙ run_length (length x.cells) x.rows wide ∙ ap (λ (l : List ℕ). length x.rows * length l) (sym same.0),
      λ i l. subst (λ (cs : List ℕ). Listed lengths cs (row_at (length cs) rest i)) (sym same.0)
          (subst (λ (r : List ℕ). Listed lengths x.cells r) (sym (row_joined (length x.cells) x.rows i wide l) ∙ ap (λ b. row_at (length x.cells) b i) (sym same.1))
          (λ k m. subst (λ (z : ℕ). get_or (get_or x.rows i []) k 0 < z) (sym (get_or-map length lists (get_or x.cells k 0) [] 0 (g.known k m)) ∙ ap (λ (l : List ℕ). get_or l (get_or x.cells k 0) 0) e) ((g.rows i l).listed k m))),
    )

pub part_of_row : (content lengths : List ℕ) (n tag : ℕ) (kind : Kind) (cells rest : List ℕ) → Splits content n kind cells rest → (length rest % length cells ≡ 0 → ⊥) → NoRows content lengths tag (RowsFault tag)
part_of_row content lengths n tag kind cells rest h part = record {
  fault_is = refl;
  none = λ lists e x g s. part (ap (λ m. m % length cells) (good_rest content lengths n kind cells rest lists x h e g s).0 ∙ mul-mod_left (length x.rows) (length cells));
}

pub bad_row : (content lengths : List ℕ) (n tag : ℕ) (kind : Kind) (cells rest : List ℕ) → Splits content n kind cells rest
    → (r : Bool) → Decides r ((i : ℕ) → i < length rest / length cells → Listed lengths cells (row_at (length cells) rest i)) → r ≡ false → NoRows content lengths tag (RowsFault tag)
bad_row content lengths n tag kind cells rest h b d is = record {
  fault_is = refl;
  none = λ lists e x g s.
      let r = good_rest content lengths n kind cells rest lists x h e g s in
      let count : length rest / length cells ≡ length x.rows = ap (λ m. m / length cells) r.0 ∙ mul-div_cancel (length x.rows) {n = length cells} h.some in
      not_from_Decides b d is (λ i l. r.1 i (omega arith));
}

-- a content whose parts are good
pub all_rows : (content lengths : List ℕ) (start : ℕ) (before after : List ℕ) (rule : RowsRule) (kind : Kind) (cells rest : List ℕ) (count : ℕ)
    → Splits content (length lengths) kind cells rest → length rest ≡ count * length cells → ((i : ℕ) → i < count → Listed lengths cells (row_at (length cells) rest i))
    → rule ≡ record { kind = kind; width = length cells; cells = filled 0 4 cells; start = start; count = count }
    → after ≡ rest ++ drop (length rest) before → ReadRows content lengths start before after rule
all_rows content lengths start before after rule kind cells rest count h long all is stored = record {
  field = record { kind = kind; cells = cells; rows = rows };
  good = λ lists e. record {
    some = h.some;
    few = h.few;
    known = λ k l. omega (arith, h.known k l, ap length e, length-map lists length);
    apart = h.apart;
    rows = λ i l. let below : i < count = omega (arith, length_cut count (length cells) rest) in good_row lists e i below;
  };
  said = h.said ∙ ap (λ l. kind_byte kind ∷ length cells ∷ (cells ++ l)) (sym (joined_cut count (length cells) rest long));
  rule_is = is ∙ (λ i. record { kind = kind; width = length cells; cells = filled 0 4 cells; start = start; count = sym (length_cut count (length cells) rest) i });
  stored = stored ∙ ap (λ (l : List ℕ). l ++ drop (length l) before) (sym (joined_cut count (length cells) rest long));
}
  where
    rows : List (List ℕ)
    rows = cut count (length cells) rest

    good_row : (lists : List (List ℤ)) → map length lists ≡ lengths → (i : ℕ) → i < count → GoodRow lists cells (get_or (cut count (length cells) rest) i [])
    good_row lists e i l = subst (GoodRow lists cells) (sym (item_cut count (length cells) rest i l)) (record {
      wide = length-take-le (length cells) (drop (i * length cells) rest) (omega (arith, length-drop (i * length cells) rest, row_within count (length cells) i l));
      listed = λ k m. subst (λ (z : ℕ). get_or (row_at (length cells) rest i) k 0 < z)
          (sym (ap (λ (ls : List ℕ). get_or ls (get_or cells k 0) 0) e) ∙ get_or-map length lists (get_or cells k 0) [] 0 (omega (arith, h.known k m, ap length e, length-map lists length)))
          (all i l k m);
    })
