-- What can follow each first word of a line, and that a line says one thing alone. Assumes nothing.
use Rattle.std.proofs.Common.{◌≡◌, ◌≢◌, ℕ, ◌+◌, ◌<◌, ◌≤◌, Bool, true, false, List, [], ◌∷◌, ◌++◌, map, take, length, Some, None, Option, codes, get_or, sym, refl, ap, ◌∙◌, subst, arith}
use Rattle.std.specs.Option.{unwrap_or}
use Rattle.std.proofs.lemmas.List.{take_all, map_more, get_or-map, length-map}
use Rattle.bits.proofs.Lists.{each_at}
use Rattle.std.specs.List.{AllByRecursion, AllZip}
use Rattle.calls.specs.declared.call.Call.TheVariants.{Pin, Free, Switch, Fit}
use Rattle.script.specs.declared.line.Line.{Line}
use Rattle.script.specs.declared.line.Line.TheVariants.{Blank, Call, Turn, NotUnderstood}
use Rattle.script.specs.Words.{words_of, IsNumber, rule_number, cell_number}
use Rattle.script.specs.Script.{flags_of, Says, blank, comment, pin, free, on_word, switch, fit, turn, Decided, ReadAs, understood, nothing}

-- the letter at a place of the first word
abbrev letter : ℕ → List (List ℕ) → ℕ
letter i ws = get_or (get_or ws 0 []) i 0

-- ---- what follows pin
pub record Pins (rest : List (List ℕ)) (l : Line) : Type 0 where
  pub cell : List ℕ
  pub place : List ℕ
  pub are : rest ≡ cell ∷ place ∷ []
  pub is_cell : IsNumber cell
  pub is_place : IsNumber place
  pub line : l ≡ Call (Pin (cell_number cell) (cell_number place))

pins : (ws rest : List (List ℕ)) (l : Line) → ws ≡ codes "pin" ∷ rest → Says ws l → Pins rest l
pins ws rest l e (pin {c} {p} a b) = record { cell = c; place = p; are = cc; is_cell = a; is_place = b; line = refl }
pins ws rest l e _ = let h : letter 0 ws ≡ 112 = ap (letter 0) e in absurd (omega arith)

pub pin_says : (rest : List (List ℕ)) (l : Line) → Says (codes "pin" ∷ rest) l → Pins rest l
pin_says rest l s = pins (codes "pin" ∷ rest) rest l refl s

-- ---- what follows free
pub record Frees (rest : List (List ℕ)) (l : Line) : Type 0 where
  pub cell : List ℕ
  pub are : rest ≡ cell ∷ []
  pub is_cell : IsNumber cell
  pub line : l ≡ Call (Free (cell_number cell))

frees : (ws rest : List (List ℕ)) (l : Line) → ws ≡ codes "free" ∷ rest → Says ws l → Frees rest l
frees ws rest l e (free {c} a) = record { cell = c; are = cc; is_cell = a; line = refl }
frees ws rest l e _ =
    let h : letter 0 ws ≡ 102 = ap (letter 0) e in
    let i : letter 1 ws ≡ 114 = ap (letter 1) e in
    absurd (omega arith)

pub free_says : (rest : List (List ℕ)) (l : Line) → Says (codes "free" ∷ rest) l → Frees rest l
free_says rest l s = frees (codes "free" ∷ rest) rest l refl s

-- ---- what follows switch
pub record Switches (rest : List (List ℕ)) (l : Line) : Type 0 where
  pub rule : List ℕ
  pub on : Bool
  pub are : rest ≡ rule ∷ on_word on ∷ []
  pub is_rule : IsNumber rule
  pub line : l ≡ Call (Switch (rule_number rule) on)

switches : (ws rest : List (List ℕ)) (l : Line) → ws ≡ codes "switch" ∷ rest → Says ws l → Switches rest l
switches ws rest l e (switch {r} {on} a) = record { rule = r; on = on; are = cc; is_rule = a; line = refl }
switches ws rest l e _ = let h : letter 0 ws ≡ 115 = ap (letter 0) e in absurd (omega arith)

pub switch_says : (rest : List (List ℕ)) (l : Line) → Says (codes "switch" ∷ rest) l → Switches rest l
switch_says rest l s = switches (codes "switch" ∷ rest) rest l refl s

-- ---- what follows fit
pub record Fits (rest : List (List ℕ)) (l : Line) : Type 0 where
  pub are : rest ≡ []
  pub line : l ≡ Call Fit

fits : (ws rest : List (List ℕ)) (l : Line) → ws ≡ codes "fit" ∷ rest → Says ws l → Fits rest l
fits ws rest l e fit = record { are = cc; line = refl }
fits ws rest l e _ =
    let h : letter 0 ws ≡ 102 = ap (letter 0) e in
    let i : letter 1 ws ≡ 105 = ap (letter 1) e in
    absurd (omega arith)

pub fit_says : (rest : List (List ℕ)) (l : Line) → Says (codes "fit" ∷ rest) l → Fits rest l
fit_says rest l s = fits (codes "fit" ∷ rest) rest l refl s

-- ---- what follows turn
pub record Turns (rest : List (List ℕ)) (l : Line) : Type 0 where
  pub are : AllByRecursion IsNumber rest
  pub line : l ≡ Turn (flags_of rest)

turns : (ws rest : List (List ℕ)) (l : Line) → ws ≡ codes "turn" ∷ rest → Says ws l → Turns rest l
turns ws rest l e (turn {rs} a) =
    let i : rs ≡ rest = cc in
    record { are = subst (AllByRecursion IsNumber) i a; line = ap (λ r. Turn (flags_of r)) i }
turns ws rest l e _ = let h : letter 0 ws ≡ 116 = ap (letter 0) e in absurd (omega arith)

pub turn_says : (rest : List (List ℕ)) (l : Line) → Says (codes "turn" ∷ rest) l → Turns rest l
turn_says rest l s = turns (codes "turn" ∷ rest) rest l refl s

-- ---- a comment, and no words
comments : (ws rest : List (List ℕ)) (w : List ℕ) (l : Line) → ws ≡ (35 ∷ w) ∷ rest → Says ws l → l ≡ Blank
comments ws rest w l e comment = refl
comments ws rest w l e _ = let h : letter 0 ws ≡ 35 = ap (letter 0) e in absurd (omega arith)

blanks : (ws : List (List ℕ)) (l : Line) → ws ≡ [] → Says ws l → l ≡ Blank
blanks ws l e blank = refl
blanks ws l e _ = absurd cc

-- ---- what two words, one word or no word say
pub pin_line : {A : Type 0} (v : A → List ℕ) (xs : List A) (d e : A) (m n : ℕ) → 2 ≤ length xs → length xs < 3
    → IsNumber (v (get_or xs 0 d)) × (m ≡ cell_number (v (get_or xs 0 d))) → IsNumber (v (get_or xs 1 e)) × (n ≡ cell_number (v (get_or xs 1 e))) → Says (codes "pin" ∷ map v xs) (Call (Pin m n))
pin_line v [] d e m n lo hi a b = absurd (omega arith)
pin_line v (x ∷ []) d e m n lo hi a b = absurd (omega arith)
pin_line v (x ∷ y ∷ []) d e m n lo hi a b =
    subst (λ k. Says (codes "pin" ∷ v x ∷ v y ∷ []) (Call (Pin k n))) (sym a.1) (subst (λ k. Says (codes "pin" ∷ v x ∷ v y ∷ []) (Call (Pin (cell_number (v x)) k))) (sym b.1) (pin a.0 b.0))
pin_line v (x ∷ y ∷ z ∷ xs) d e m n lo hi a b = absurd (omega arith)

pub free_line : {A : Type 0} (v : A → List ℕ) (xs : List A) (d : A) (m : ℕ) → 1 ≤ length xs → length xs < 2
    → IsNumber (v (get_or xs 0 d)) × (m ≡ cell_number (v (get_or xs 0 d))) → Says (codes "free" ∷ map v xs) (Call (Free m))
free_line v [] d m lo hi a = absurd (omega arith)
free_line v (x ∷ []) d m lo hi a = subst (λ k. Says (codes "free" ∷ v x ∷ []) (Call (Free k))) (sym a.1) (free a.0)
free_line v (x ∷ y ∷ xs) d m lo hi a = absurd (omega arith)

pub no_on_word : (w : List ℕ) → w ≢ codes "on" → w ≢ codes "off" → (on : Bool) → w ≢ on_word on
no_on_word w n f true e = n e
no_on_word w n f false e = f e

pub switch_line : {A : Type 0} (v : A → List ℕ) (xs : List A) (d e : A) (m : ℕ) (on : Bool) → 2 ≤ length xs → length xs < 3
    → IsNumber (v (get_or xs 0 d)) × (m ≡ rule_number (v (get_or xs 0 d))) → v (get_or xs 1 e) ≡ on_word on → Says (codes "switch" ∷ map v xs) (Call (Switch m on))
switch_line v [] d e m on lo hi a b = absurd (omega arith)
switch_line v (x ∷ []) d e m on lo hi a b = absurd (omega arith)
switch_line v (x ∷ y ∷ []) d e m on lo hi a b = subst (λ k. Says (codes "switch" ∷ v x ∷ v y ∷ []) (Call (Switch k on))) (sym a.1) (subst (λ u. Says (codes "switch" ∷ v x ∷ u ∷ []) (Call (Switch (rule_number (v x)) on))) (sym b) (switch a.0))
switch_line v (x ∷ y ∷ z ∷ xs) d e m on lo hi a b = absurd (omega arith)

pub fit_line : {A : Type 0} (v : A → List ℕ) (xs : List A) → length xs ≡ 0 → Says (codes "fit" ∷ map v xs) (Call Fit)
fit_line v [] z = fit
fit_line v (x ∷ xs) z = absurd (omega arith)

pub comment_line : (w : List ℕ) (rest : List (List ℕ)) → 1 ≤ length w → get_or w 0 0 ≡ 35 → Says (w ∷ rest) Blank
comment_line [] rest h e = absurd (omega arith)
comment_line (b ∷ w) rest h e = subst (λ k. Says ((k ∷ w) ∷ rest) Blank) (sym e) comment

pub turn_line : (ws : List (List ℕ)) (flags : List Bool) → AllByRecursion IsNumber ws → flags ≡ flags_of ws → Says (codes "turn" ∷ ws) (Turn flags)
turn_line ws flags a e = subst (λ f. Says (codes "turn" ∷ ws) (Turn f)) (sym e) (turn a)

pub turn_all : {A : Type 0} (v : A → List ℕ) (xs : List A) (i : ℕ) (flags : List Bool) → length xs ≤ i → AllByRecursion IsNumber (map v (take i xs)) → flags ≡ flags_of (map v (take i xs)) → Says (codes "turn" ∷ map v xs) (Turn flags)
turn_all v xs i flags h a e = subst (λ ys. Says (codes "turn" ∷ map v ys) (Turn flags)) (take_all i xs h) (turn_line (map v (take i xs)) flags a e)

pub turn_none : {A : Type 0} (v : A → List ℕ) (xs : List A) (i : ℕ) (d : A) (o : Option Line) → i < length xs → (IsNumber (v (get_or xs i d)) → ⊥) → o ≡ None → Decided (codes "turn" ∷ map v xs) o
turn_none v xs i d o h n e =
    subst (Decided (codes "turn" ∷ map v xs)) (sym e)
    (λ l s. n (subst IsNumber (get_or-map v xs i d [] h) (each_at IsNumber (map v xs) [] (turn_says (map v xs) l s).are i (omega (arith, length-map xs v)))))

-- ---- a line, by its words
pub read_line : (text w : List ℕ) (rest : List (List ℕ)) (o : Option Line) (l : Line) → words_of text ≡ w ∷ rest → Decided (w ∷ rest) o → l ≡ unwrap_or o NotUnderstood → ReadAs text l
read_line text w rest (Some m) l e d f = subst (ReadAs text) (sym f) (understood (subst (λ ws. Says ws m) (sym e) d))
read_line text w rest None l e d f = subst (ReadAs text) (sym f) (nothing (λ m s. d m (subst (λ ws. Says ws m) e s)))

pub read_blank : {A : Type 0} (v : A → List ℕ) (text : List ℕ) (ws : List A) → map v ws ≡ words_of text → length ws ≡ 0 → ReadAs text Blank
read_blank v text (w ∷ ws) e z = absurd (omega arith)
read_blank v text [] f z =
    let e = sym f in understood (subst (λ ws. Says ws Blank) (sym e) blank)

-- ---- one line after another
lines_push : (ts : List (List ℕ)) (ls : List Line) (t : List ℕ) (l : Line) → AllZip ReadAs ts ls → ReadAs t l → AllZip ReadAs (ts ++ (t ∷ [])) (ls ++ (l ∷ []))
lines_push [] [] t l a r = (r, tt)
lines_push [] (m ∷ ms) t l a r = absurd a
lines_push (u ∷ us) [] t l a r = absurd a
lines_push (u ∷ us) (m ∷ ms) t l a r = (a.0, lines_push us ms t l a.1 r)

pub lines_more : {A : Type 0} (v : A → List ℕ) (xs : List A) (i : ℕ) (d : A) (ls : List Line) (l : Line) → i < length xs → AllZip ReadAs (map v (take i xs)) ls → ReadAs (v (get_or xs i d)) l → AllZip ReadAs (map v (take (i + 1) xs)) (ls ++ (l ∷ []))
lines_more v xs i d ls l h a r = subst (λ ts. AllZip ReadAs ts (ls ++ (l ∷ []))) (sym (map_more v xs i d h)) (lines_push (map v (take i xs)) ls (v (get_or xs i d)) l a r)

-- ---- one thing alone
abbrev second : List ℕ → ℕ
second w = get_or w 1 0

apart : {P : Type 0} → ◌≡◌ {A = ℕ} 110 102 → P
apart e = absurd (omega arith)

same_on : (a b : Bool) → on_word a ≡ on_word b → a ≡ b
same_on true true e = refl
same_on true false e = apart (ap second e)
same_on false true e = apart (sym (ap second e))
same_on false false e = refl

pub says_once : (ws : List (List ℕ)) (l m : Line) → Says ws l → Says ws m → m ≡ l
says_once ws l m blank t = blanks [] m refl t
says_once ws l m (comment {w = w} {ws = rest}) t = comments ((35 ∷ w) ∷ rest) rest w m refl t
says_once ws l m (pin {c} {p} a b) t =
    let r = pin_says (c ∷ p ∷ []) m t in
    let x : r.cell ≡ c = let e = r.are in cc in
    let y : r.place ≡ p = let e = r.are in cc in
    r.line ∙ ap (λ z. Call (Pin (cell_number z) (cell_number r.place))) x ∙ ap (λ z. Call (Pin (cell_number c) (cell_number z))) y
says_once ws l m (free {c} a) t =
    let r = free_says (c ∷ []) m t in
    let x : r.cell ≡ c = let e = r.are in cc in
    r.line ∙ ap (λ z. Call (Free (cell_number z))) x
says_once ws l m (switch {r} {on} a) t =
    let s = switch_says (r ∷ on_word on ∷ []) m t in
    let x : s.rule ≡ r = let e = s.are in cc in
    let y : on_word s.on ≡ on_word on = let e = s.are in cc in
    s.line ∙ ap (λ z. Call (Switch (rule_number z) s.on)) x ∙ ap (λ z. Call (Switch (rule_number r) z)) (same_on s.on on y)
says_once ws l m fit t = (fit_says [] m t).line
says_once ws l m (turn {rs} a) t = (turn_says rs m t).line

pub reads_once : (text : List ℕ) (l m : Line) → ReadAs text l → ReadAs text m → m ≡ l
reads_once text l m (understood s) (understood t) = says_once (words_of text) l m s t
reads_once text l m (understood s) (nothing n) = absurd (n l s)
reads_once text l m (nothing n) (understood t) = absurd (n m t)
reads_once text l m (nothing n) (nothing k) = refl
