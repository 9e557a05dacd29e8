-- Cells noted one by one. Assumes nothing.
use Rattle.std.proofs.Common.{◌≡◌, ℕ, suc, ◌+◌, ◌-◌, ◌<◌, ◌≤◌, true, false, cond, ◌||◌, ◌==◌, ◌≢◌, List, [], ◌∷◌, ◌++◌, length, get_or, take, drop, set, replicate, sym, refl, ap, ◌∙◌, subst, ⊎_elim, append_assoc, append-nil, arith, length-append}
use Rattle.std.specs.List.{list_any}
use Rattle.std.proofs.lemmas.List.{take_at, set-append_right, take_more, take-append-drop}
use Rattle.std.proofs.lemmas.Bool.{cases_eq, eq-eqb, ne_eqb, cond_both, cond-true, cond-false}
use Rattle.formulas.specs.declared.node.Node.{Node}
use Rattle.formulas.specs.declared.node.Node.TheVariants.{Not, And, Or}
use Rattle.formulas.specs.Tree.{Condition, compares, negates, all, any, Conditions, one, more, among, noted, mentions, list_mentions}
use Rattle.formulas.specs.Layout.{size, layout, list_layout}
use Rattle.reader.specs.declared.named.Named.{Named}
use Rattle.reader.specs.Mentions.{node_cells, mentioned, Padded, Holds}

pub noted_append : (seen xs ys : List ℕ) → noted seen (xs ++ ys) ≡ noted (noted seen xs) ys
noted_append seen [] ys = refl
noted_append seen (x ∷ xs) ys = noted_append (cond (among x seen) seen (seen ++ (x ∷ []))) xs ys

pub mentioned_append : (xs ys : List Node) → mentioned (xs ++ ys) ≡ mentioned xs ++ mentioned ys
mentioned_append [] ys = refl
mentioned_append (x ∷ xs) ys = ap (λ l. node_cells x ++ l) (mentioned_append xs ys) ∙ sym (append_assoc (node_cells x) (mentioned xs) (mentioned ys))

-- the nodes of a tree name its cells in the order of its text
mutual
  pub mentioned_layout : (n : ℕ) (c : Condition) → mentioned (layout n c) ≡ mentions c
  mentioned_layout n (compares a o b) = append-nil _
  mentioned_layout n (negates c) = mentioned_append (layout n c) (Not (n + size c - 1) ∷ []) ∙ append-nil _ ∙ mentioned_layout n c
  mentioned_layout n (all cs) = mentioned_list And (λ i j. refl) n cs
  mentioned_layout n (any cs) = mentioned_list Or (λ i j. refl) n cs

  mentioned_list : (joins : ℕ → ℕ → Node) → ((i j : ℕ) → node_cells (joins i j) ≡ []) → (n : ℕ) (cs : Conditions) → mentioned (list_layout joins n cs) ≡ list_mentions cs
  mentioned_list joins e n (one c) = mentioned_layout n c
  mentioned_list joins e n (more c cs) =
      let last = joins (n + size c - 1) (n + size c + Rattle.formulas.specs.Layout.list_size cs - 1) in
      mentioned_append (layout n c) (list_layout joins (n + size c) cs ++ (last ∷ []))
      ∙ ap (λ l. mentioned (layout n c) ++ l) (mentioned_append (list_layout joins (n + size c) cs) (last ∷ []) ∙ ap (λ l. mentioned (list_layout joins (n + size c) cs) ++ (l ++ [])) (e _ _) ∙ append-nil _)
      ∙ ap (λ l. l ++ mentioned (list_layout joins (n + size c) cs)) (mentioned_layout n c) ∙ ap (λ l. mentions c ++ l) (mentioned_list joins e (n + size c) cs)

eqb-comm : (a b : ℕ) → (a == b) ≡ (b == a)
eqb-comm a b = ⊎_elim (λ e. eq-eqb a b e ∙ sym (eq-eqb b a (sym e))) (λ n. ne_eqb a b n ∙ sym (ne_eqb b a (λ e. n (sym e)))) (cases_eq a b)

-- the test of `contains` is `among`
pub contains_among : (c : ℕ) (xs : List ℕ) → list_any (λ y. y == c) xs ≡ among c xs
contains_among c [] = refl
contains_among c (x ∷ xs) = ap (λ b. b || list_any (λ y. y == c) xs) (eqb-comm x c) ∙ ap (λ b. (c == x) || b) (contains_among c xs)

-- cells noted stay noted
pub longer : (seen xs : List ℕ) → length seen ≤ length (noted seen xs)
longer seen [] = omega arith
longer seen (x ∷ xs) =
    omega (arith, longer (cond (among x seen) seen (seen ++ (x ∷ []))) xs, cond_both (among x seen) seen (seen ++ (x ∷ [])) (λ l. length seen ≤ length l) (λ _. omega arith) (λ _. omega (arith, length-append seen (x ∷ []))))

module _ (cs : List ℕ) (n : Named) (c : ℕ) (h : Holds cs n) where
  -- the cells kept
  pub kept : take n.count n.cells ≡ cs
  kept = ap (take n.count) h.cells_are ∙ take_at cs (replicate (4 - length cs) 0) n.count (sym h.count_is)

  new : among c cs ≡ false → noted cs (c ∷ []) ≡ cs ++ (c ∷ [])
  new e = cond-false (among c cs) cs (cs ++ (c ∷ [])) e

  pub hold_old : among c cs ≡ true → Holds (noted cs (c ∷ [])) n
  hold_old e = subst (λ l. Holds l n) (sym (cond-true (among c cs) cs (cs ++ (c ∷ [])) e)) h

  pub hold_full : n.count ≡ 4 → among c cs ≡ false → 4 < length (noted cs (c ∷ []))
  hold_full full e = omega (arith, ap length (new e), length-append cs (c ∷ []), h.count_is)

  pub hold_new : {cells : List ℕ} → n.count ≢ 4 → among c cs ≡ false → cells ≡ set n.cells n.count c
      → Padded (noted cs (c ∷ [])) cells (n.count + 1)
  hold_new {cells} room e g =
      let l = length-append cs (c ∷ []) in
      let less : length cs < 4 = omega (arith, h.count_is, h.few) in
      let z : 4 - length cs ≡ suc (4 - (length cs + 1)) = omega arith in
      subst (λ x. Padded x cells (n.count + 1)) (sym (new e)) (record {
        few = omega arith;
        count_is = omega (arith, h.count_is);
        cells_are = g ∙ ap (λ x. set x n.count c) h.cells_are ∙ ap (λ i. set (cs ++ replicate (4 - length cs) 0) i c) h.count_is
            ∙ set-append_right cs (replicate (4 - length cs) 0) (length cs) (length cs) c refl (omega arith)
            ∙ ap (λ i. cs ++ set (replicate (4 - length cs) 0) i c) (omega arith)
            ∙ ap (λ i. cs ++ set (replicate i 0) 0 c) z ∙ ap (λ i. cs ++ (c ∷ replicate i 0)) (ap (λ i. 4 - i) (sym l))
            ∙ sym (append_assoc cs (c ∷ []) (replicate (4 - length (cs ++ (c ∷ []))) 0));
      })

-- one more node
pub node_more : (nodes : List Node) (i : ℕ) (x : Node) → i < length nodes → x ≡ get_or nodes i x → noted [] (mentioned (take (i + 1) nodes)) ≡ noted (noted [] (mentioned (take i nodes))) (node_cells x)
node_more nodes i x lt is =
    ap (λ l. noted [] (mentioned l)) (take_more nodes i x lt ∙ ap (λ y. take i nodes ++ (y ∷ [])) (sym is))
    ∙ ap (noted []) (mentioned_append (take i nodes) (x ∷ []) ∙ ap (λ l. mentioned (take i nodes) ++ l) (append-nil (node_cells x)))
    ∙ noted_append [] (mentioned (take i nodes)) (node_cells x)

-- too many cells up to a node are too many in all
pub node_many : (nodes : List Node) (i : ℕ) (x : Node) → i < length nodes → x ≡ get_or nodes i x → 4 < length (noted (noted [] (mentioned (take i nodes))) (node_cells x)) → 4 < length (noted [] (mentioned nodes))
node_many nodes i x lt is many =
    let first = take (i + 1) nodes in
    let rest = drop (i + 1) nodes in
    let all : noted [] (mentioned nodes) ≡ noted (noted [] (mentioned first)) (mentioned rest) =
    ap (λ l. noted [] (mentioned l)) (sym (take-append-drop (i + 1) nodes)) ∙ ap (noted []) (mentioned_append first rest) ∙ noted_append [] (mentioned first) (mentioned rest) in
    omega (arith, many, ap length (node_more nodes i x lt is), ap length all, longer (noted [] (mentioned first)) (mentioned rest))
