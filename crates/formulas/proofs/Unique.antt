-- A text has one tree: sides, relations, conditions and lists can be read in one way only. Assumes nothing.
use Rattle.std.proofs.Common.{◌≡◌, ℕ, suc, ◌<◌, ◌≤◌, Bool, true, ◌≢◌, ◌⊎◌, List, [], ◌∷◌, ◌++◌, length, ℤ, pos, negsuc, sym, refl, ap, ◌∙◌, subst, inl, inr, ⊎_elim, append_assoc, arith}
use Rattle.std.proofs.lemmas.List.{append_cancel_left}
use Rattle.std.specs.List.{AllByRecursion}
use Rattle.formulas.specs.declared.node.Shift.{Shift}
use Rattle.formulas.specs.declared.node.Shift.TheVariants.{Bare, Plus, Minus}
use Rattle.formulas.specs.declared.node.Side.{Side}
use Rattle.formulas.specs.declared.node.Side.TheVariants.{Number, Cell}
use Rattle.formulas.specs.declared.node.Relation.{Relation}
use Rattle.formulas.specs.declared.node.Relation.TheVariants.{Equal, NotEqual, Less, LessEqual, Greater, GreaterEqual}
use Rattle.formulas.specs.Tree.{Condition, compares, negates, all, any, Conditions, one, more, numeral, number_text, shift_text, side_text, relation_text, text, list_text, not_word, and_word, or_word}
use Rattle.formulas.specs.Faults.{next, Digit}
use Rattle.formulas.specs.Reading.{EndsShift, EndsSide, EndsRelation, Ends, Follows, ends, closes, goes_on}
use Rattle.formulas.proofs.Numerals.{numeral_next, numeral_unique}

pub uncons : (b : ℕ) (s t : List ℕ) → b ∷ s ≡ b ∷ t → s ≡ t
uncons b s t e = cc

-- what a side begins with
abbrev pub SideFirst : ℕ → Type 0
SideFirst b = Digit b ⊎ ((b ≡ 45) ⊎ (b ≡ 67))

pub side_first : (a : Side) (t : List ℕ) → SideFirst (next (side_text a ++ t))
side_first (Number (pos n)) t = inl (numeral_next n t)
side_first (Number (negsuc n)) t = inr (inl refl)
side_first (Cell c h) t = inr (inr refl)

-- no letter of a word is one
pub not_side : (b : ℕ) → SideFirst b → 67 < b → ⊥
not_side b f h = ⊎_elim (λ d. omega (arith, d.1)) (λ g. ⊎_elim (λ e. omega arith) (λ e. omega arith) g) f

not_side_a : (b : ℕ) → SideFirst b → b ≡ 65 → ⊥
not_side_a b f h = ⊎_elim (λ d. omega (arith, d.1)) (λ g. ⊎_elim (λ e. omega arith) (λ e. omega arith) g) f

number_unique : (y z : ℤ) (t u : List ℕ) → (Digit (next t) → ⊥) → (Digit (next u) → ⊥) → number_text y ++ t ≡ number_text z ++ u → (y ≡ z) × (t ≡ u)
number_unique (pos m) (pos n) t u f g e = let i = numeral_unique m n t u f g e in (ap pos i.0, i.1)
number_unique (pos m) (negsuc n) t u f g e = let d = numeral_next m t in absurd (omega (arith, d.0, ap next e))
number_unique (negsuc m) (pos n) t u f g e = let d = numeral_next n u in absurd (omega (arith, d.0, ap next e))
number_unique (negsuc m) (negsuc n) t u f g e =
    let i = numeral_unique (suc m) (suc n) t u f g (uncons 45 _ _ e) in
    let j : m ≡ n = omega (arith, i.0) in
    (ap negsuc j, i.1)

pub shift_ends : (h : Shift) (t : List ℕ) → EndsShift h (next t) → Digit (next (shift_text h ++ t)) → ⊥
shift_ends Bare t f d = f.0 d
shift_ends (Plus n) t f d = omega (arith, d.0)
shift_ends (Minus n) t f d = omega (arith, d.0)

shift_unique : (h k : Shift) (t u : List ℕ) → EndsShift h (next t) → EndsShift k (next u) → shift_text h ++ t ≡ shift_text k ++ u → (h ≡ k) × (t ≡ u)
shift_unique Bare Bare t u f g e = (refl, e)
shift_unique Bare (Plus n) t u f g e = absurd (f.1 (ap next e))
shift_unique Bare (Minus n) t u f g e = absurd (f.2 (ap next e))
shift_unique (Plus m) Bare t u f g e = absurd (g.1 (sym (ap next e)))
shift_unique (Plus m) (Plus n) t u f g e = let i = numeral_unique m n t u f g (uncons 43 _ _ e) in (ap Plus i.0, i.1)
shift_unique (Plus m) (Minus n) t u f g e = absurd (omega (arith, ap next e))
shift_unique (Minus m) Bare t u f g e = absurd (g.2 (sym (ap next e)))
shift_unique (Minus m) (Plus n) t u f g e = absurd (omega (arith, ap next e))
shift_unique (Minus m) (Minus n) t u f g e = let i = numeral_unique m n t u f g (uncons 45 _ _ e) in (ap Minus i.0, i.1)

number_first : (z : ℤ) (t : List ℕ) → next (number_text z ++ t) ≢ 67
number_first (pos n) t e = let d = numeral_next n t in omega (arith, d.1)
number_first (negsuc n) t e = omega (arith, e)

pub side_unique : (a b : Side) (t u : List ℕ) → EndsSide a (next t) → EndsSide b (next u) → side_text a ++ t ≡ side_text b ++ u → (a ≡ b) × (t ≡ u)
side_unique (Number y) (Number z) t u f g e = let i = number_unique y z t u f g e in (ap Number i.0, i.1)
side_unique (Number y) (Cell c h) t u f g e = absurd (number_first y t (ap next e))
side_unique (Cell c h) (Number z) t u f g e = absurd (number_first z u (sym (ap next e)))
side_unique (Cell c h) (Cell d k) t u f g e =
    let e₁ : numeral c ++ (shift_text h ++ t) ≡ numeral d ++ (shift_text k ++ u) =
    sym (append_assoc (numeral c) (shift_text h) t) ∙ uncons 67 _ _ e ∙ append_assoc (numeral d) (shift_text k) u in
    let i = numeral_unique c d (shift_text h ++ t) (shift_text k ++ u) (shift_ends h t f) (shift_ends k u g) e₁ in
    let j = shift_unique h k t u f g i.1 in
    ((λ x. Cell (i.0 x) (j.0 x)), j.1)

pub side_ends_relation : (o : Relation) (b : ℕ) → SideFirst b → EndsRelation o b
side_ends_relation Equal b f = tt
side_ends_relation NotEqual b f = tt
side_ends_relation Less b f = ((λ e. ⊎_elim (λ d. omega (arith, d.1)) (λ g. ⊎_elim (λ z. omega arith) (λ z. omega arith) g) f), (λ e. ⊎_elim (λ d. omega (arith, d.1)) (λ g. ⊎_elim (λ z. omega arith) (λ z. omega arith) g) f))
side_ends_relation LessEqual b f = tt
side_ends_relation Greater b f = λ e. ⊎_elim (λ d. omega (arith, d.1)) (λ g. ⊎_elim (λ z. omega arith) (λ z. omega arith) g) f
side_ends_relation GreaterEqual b f = tt

pub relation_unique : (o p : Relation) (t u : List ℕ) → EndsRelation o (next t) → EndsRelation p (next u) → relation_text o ++ t ≡ relation_text p ++ u → (o ≡ p) × (t ≡ u)
relation_unique Equal Equal t u f g e = (refl, uncons 61 _ _ e)
relation_unique Equal NotEqual t u f g e = absurd (omega (arith, ap next e))
relation_unique Equal Less t u f g e = absurd (omega (arith, ap next e))
relation_unique Equal LessEqual t u f g e = absurd (omega (arith, ap next e))
relation_unique Equal Greater t u f g e = absurd (omega (arith, ap next e))
relation_unique Equal GreaterEqual t u f g e = absurd (omega (arith, ap next e))
relation_unique NotEqual Equal t u f g e = absurd (omega (arith, ap next e))
relation_unique NotEqual NotEqual t u f g e = (refl, uncons 62 _ _ (uncons 60 _ _ e))
relation_unique NotEqual Less t u f g e = absurd (g.1 (sym (ap next (uncons 60 _ _ e))))
relation_unique NotEqual LessEqual t u f g e = absurd (omega (arith, ap next (uncons 60 _ _ e)))
relation_unique NotEqual Greater t u f g e = absurd (omega (arith, ap next e))
relation_unique NotEqual GreaterEqual t u f g e = absurd (omega (arith, ap next e))
relation_unique Less Equal t u f g e = absurd (omega (arith, ap next e))
relation_unique Less NotEqual t u f g e = absurd (f.1 (ap next (uncons 60 _ _ e)))
relation_unique Less Less t u f g e = (refl, uncons 60 _ _ e)
relation_unique Less LessEqual t u f g e = absurd (f.0 (ap next (uncons 60 _ _ e)))
relation_unique Less Greater t u f g e = absurd (omega (arith, ap next e))
relation_unique Less GreaterEqual t u f g e = absurd (omega (arith, ap next e))
relation_unique LessEqual Equal t u f g e = absurd (omega (arith, ap next e))
relation_unique LessEqual NotEqual t u f g e = absurd (omega (arith, ap next (uncons 60 _ _ e)))
relation_unique LessEqual Less t u f g e = absurd (g.0 (sym (ap next (uncons 60 _ _ e))))
relation_unique LessEqual LessEqual t u f g e = (refl, uncons 61 _ _ (uncons 60 _ _ e))
relation_unique LessEqual Greater t u f g e = absurd (omega (arith, ap next e))
relation_unique LessEqual GreaterEqual t u f g e = absurd (omega (arith, ap next e))
relation_unique Greater Equal t u f g e = absurd (omega (arith, ap next e))
relation_unique Greater NotEqual t u f g e = absurd (omega (arith, ap next e))
relation_unique Greater Less t u f g e = absurd (omega (arith, ap next e))
relation_unique Greater LessEqual t u f g e = absurd (omega (arith, ap next e))
relation_unique Greater Greater t u f g e = (refl, uncons 62 _ _ e)
relation_unique Greater GreaterEqual t u f g e = absurd (f (ap next (uncons 62 _ _ e)))
relation_unique GreaterEqual Equal t u f g e = absurd (omega (arith, ap next e))
relation_unique GreaterEqual NotEqual t u f g e = absurd (omega (arith, ap next e))
relation_unique GreaterEqual Less t u f g e = absurd (omega (arith, ap next e))
relation_unique GreaterEqual LessEqual t u f g e = absurd (omega (arith, ap next e))
relation_unique GreaterEqual Greater t u f g e = absurd (g (sym (ap next (uncons 62 _ _ e))))
relation_unique GreaterEqual GreaterEqual t u f g e = (refl, uncons 61 _ _ (uncons 62 _ _ e))

-- a relation begins with = < or >
pub relation_first : (o : Relation) (t : List ℕ) → (60 ≤ next (relation_text o ++ t)) × (next (relation_text o ++ t) ≤ 62)
relation_first Equal t = (omega arith, omega arith)
relation_first NotEqual t = (omega arith, omega arith)
relation_first Less t = (omega arith, omega arith)
relation_first LessEqual t = (omega arith, omega arith)
relation_first Greater t = (omega arith, omega arith)
relation_first GreaterEqual t = (omega arith, omega arith)

pub relation_bytes : (o : Relation) → AllByRecursion (λ b. (60 ≤ b) × (b ≤ 62)) (relation_text o) × (1 ≤ length (relation_text o))
relation_bytes Equal = (((omega arith, omega arith), tt), omega arith)
relation_bytes NotEqual = (((omega arith, omega arith), ((omega arith, omega arith), tt)), omega arith)
relation_bytes Less = (((omega arith, omega arith), tt), omega arith)
relation_bytes LessEqual = (((omega arith, omega arith), ((omega arith, omega arith), tt)), omega arith)
relation_bytes Greater = (((omega arith, omega arith), tt), omega arith)
relation_bytes GreaterEqual = (((omega arith, omega arith), ((omega arith, omega arith), tt)), omega arith)

-- what ends a bare cell ends any side
pub ends_any : (a : Side) (b : ℕ) → EndsShift Bare b → EndsSide a b
ends_any (Number z) b f = f.0
ends_any (Cell c Bare) b f = f
ends_any (Cell c (Plus n)) b f = f.0
ends_any (Cell c (Minus n)) b f = f.0

pub relation_ends : (o : Relation) (t : List ℕ) → EndsShift Bare (next (relation_text o ++ t))
relation_ends o t = let r = relation_first o t in ((λ d. omega (arith, r.0, d.1)), (λ e. omega (arith, r.0)), (λ e. omega (arith, r.0)))

-- a comma, a bracket and the end of the text end a side
pub follow_ends : (o : List Bool) (t : List ℕ) → Follows o t → EndsShift Bare (next t)
follow_ends [] t ends = ((λ d. omega (arith, d.1)), (λ e. omega (arith, e)), (λ e. omega (arith, e)))
follow_ends (b ∷ o) t (closes f) = ((λ d. omega (arith, d.0)), (λ e. omega (arith, e)), (λ e. omega (arith, e)))
follow_ends (true ∷ o) t (goes_on cs f) = ((λ d. omega (arith, d.0)), (λ e. omega (arith, e)), (λ e. omega (arith, e)))

pub ends_condition : (c : Condition) (b : ℕ) → EndsShift Bare b → Ends c b
ends_condition (compares x o y) b f = ends_any y b f
ends_condition (negates c) b f = tt
ends_condition (all cs) b f = tt
ends_condition (any cs) b f = tt

bracket_ends : (b : ℕ) → b ≡ 41 → EndsShift Bare b
bracket_ends b e = ((λ d. omega (arith, d.0)), (λ z. omega arith), (λ z. omega arith))

comma_ends : (b : ℕ) → b ≡ 44 → EndsShift Bare b
comma_ends b e = ((λ d. omega (arith, d.0)), (λ z. omega arith), (λ z. omega arith))

pub ends_closed : (c : Condition) → Ends c 41
ends_closed c = ends_condition c 41 (bracket_ends 41 refl)

pub ends_comma : (c : Condition) → Ends c 44
ends_comma c = ends_condition c 44 (comma_ends 44 refl)

-- a comparison, apart: side, relation, side
pub apart : (a b : Side) (o : Relation) (t : List ℕ) → text (compares a o b) ++ t ≡ side_text a ++ (relation_text o ++ (side_text b ++ t))
apart a b o t = simp append_assoc

pub compares_first : (a b : Side) (o : Relation) (t : List ℕ) → SideFirst (next (text (compares a o b) ++ t))
compares_first a b o t = subst (λ l. SideFirst (next l)) (sym (apart a b o t)) (side_first a (relation_text o ++ (side_text b ++ t)))

-- a bracket, apart: its word, what it holds, and the closing bracket
pub held : (w x t : List ℕ) → (w ++ (x ++ (41 ∷ []))) ++ t ≡ w ++ (x ++ (41 ∷ t))
held w x t = simp append_assoc

mutual
  pub unique : (c d : Condition) (t u : List ℕ) → Ends c (next t) → Ends d (next u) → text c ++ t ≡ text d ++ u → (c ≡ d) × (t ≡ u)
  unique (compares a o b) (compares x p y) t u f g e =
      let e₁ = sym (apart a b o t) ∙ e ∙ apart x y p u in
      let i = side_unique a x (relation_text o ++ (side_text b ++ t)) (relation_text p ++ (side_text y ++ u)) (ends_any a _ (relation_ends o (side_text b ++ t))) (ends_any x _ (relation_ends p (side_text y ++ u))) e₁ in
      let j = relation_unique o p (side_text b ++ t) (side_text y ++ u) (side_ends_relation o _ (side_first b t)) (side_ends_relation p _ (side_first y u)) i.1 in
      let k = side_unique b y t u f g j.1 in
      ((λ z. compares (i.0 z) (j.0 z) (k.0 z)), k.1)
  unique (compares a o b) (negates d) t u f g e = absurd (not_side 78 (subst SideFirst (ap next e) (compares_first a b o t)) (omega arith))
  unique (compares a o b) (all ds) t u f g e = absurd (not_side_a 65 (subst SideFirst (ap next e) (compares_first a b o t)) refl)
  unique (compares a o b) (any ds) t u f g e = absurd (not_side 79 (subst SideFirst (ap next e) (compares_first a b o t)) (omega arith))
  unique (negates c) (compares x p y) t u f g e = absurd (not_side 78 (subst SideFirst (sym (ap next e)) (compares_first x y p u)) (omega arith))
  unique (negates c) (negates d) t u f g e =
      let i = unique c d (41 ∷ t) (41 ∷ u) (ends_closed c) (ends_closed d) (append_cancel_left not_word _ _ (sym (held not_word (text c) t) ∙ e ∙ held not_word (text d) u)) in
      (ap negates i.0, uncons 41 t u i.1)
  unique (negates c) (all ds) t u f g e = absurd (omega (arith, ap next e))
  unique (negates c) (any ds) t u f g e = absurd (omega (arith, ap next e))
  unique (all cs) (compares x p y) t u f g e = absurd (not_side_a 65 (subst SideFirst (sym (ap next e)) (compares_first x y p u)) refl)
  unique (all cs) (negates d) t u f g e = absurd (omega (arith, ap next e))
  unique (all cs) (all ds) t u f g e =
      let i = unique_list cs ds t u (append_cancel_left and_word _ _ (sym (held and_word (list_text cs) t) ∙ e ∙ held and_word (list_text ds) u)) in
      (ap all i.0, i.1)
  unique (all cs) (any ds) t u f g e = absurd (omega (arith, ap next e))
  unique (any cs) (compares x p y) t u f g e = absurd (not_side 79 (subst SideFirst (sym (ap next e)) (compares_first x y p u)) (omega arith))
  unique (any cs) (negates d) t u f g e = absurd (omega (arith, ap next e))
  unique (any cs) (all ds) t u f g e = absurd (omega (arith, ap next e))
  unique (any cs) (any ds) t u f g e =
      let i = unique_list cs ds t u (append_cancel_left or_word _ _ (sym (held or_word (list_text cs) t) ∙ e ∙ held or_word (list_text ds) u)) in
      (ap any i.0, i.1)

  pub unique_list : (cs ds : Conditions) (t u : List ℕ) → list_text cs ++ (41 ∷ t) ≡ list_text ds ++ (41 ∷ u) → (cs ≡ ds) × (t ≡ u)
  unique_list (one c) (one d) t u e = let i = unique c d (41 ∷ t) (41 ∷ u) (ends_closed c) (ends_closed d) e in (ap one i.0, uncons 41 t u i.1)
  unique_list (one c) (more d ds) t u e =
      let i = unique c d (41 ∷ t) (44 ∷ (list_text ds ++ (41 ∷ u))) (ends_closed c) (ends_comma d) (e ∙ append_assoc (text d) (44 ∷ list_text ds) (41 ∷ u)) in
      absurd (omega (arith, ap next i.1))
  unique_list (more c cs) (one d) t u e =
      let i = unique c d (44 ∷ (list_text cs ++ (41 ∷ t))) (41 ∷ u) (ends_comma c) (ends_closed d) (sym (append_assoc (text c) (44 ∷ list_text cs) (41 ∷ t)) ∙ e) in
      absurd (omega (arith, ap next i.1))
  unique_list (more c cs) (more d ds) t u e =
      let i = unique c d (44 ∷ (list_text cs ++ (41 ∷ t))) (44 ∷ (list_text ds ++ (41 ∷ u))) (ends_comma c) (ends_comma d)
      (sym (append_assoc (text c) (44 ∷ list_text cs) (41 ∷ t)) ∙ e ∙ append_assoc (text d) (44 ∷ list_text ds) (41 ∷ u)) in
      let j = unique_list cs ds t u (uncons 44 _ _ i.1) in
      ((λ z. more (i.0 z) (j.0 z)), j.1)
