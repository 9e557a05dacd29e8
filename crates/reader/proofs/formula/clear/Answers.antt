use Rattle.std.proofs.Common.{◌≡◌, ℕ, ◌+◌, ◌-◌, ◌≤◌, List, [], ◌++◌, length, take, drop, replicate, ap, ◌∙◌, append-nil, arith, length-drop, length-take}
use borrow.Rule.Slice.PartMut.{put_mid}
use Rattle.std.proofs.lemmas.List.{drop-drop, drop_all}
use Rattle.formulas.specs.declared.node.Node.TheVariants.{Free}
use Rattle.reader.proofs.formula.clear.Goals as goal

-- a list whose end was overwritten
ended : {X : Type 0} (xs ys : List X) (a : ℕ) (y : X) → a ≤ length xs → ys ≡ replicate (length (take (length xs - a) (drop a xs))) y → put_mid a (length xs - a) xs ys ≡ take a xs ++ replicate (length xs - a) y
ended xs ys a y h e =
    let n : length (take (length xs - a) (drop a xs)) ≡ length xs - a = length-take (length xs - a) (drop a xs) ∙ omega (arith, length-drop a xs) in
    let rest : drop (length xs - a) (drop a xs) ≡ [] = drop-drop (length xs - a) a xs ∙ drop_all (a + (length xs - a)) xs (omega arith) in
    ap (λ l. take a xs ++ (ys ++ l)) rest ∙ ap (λ l. take a xs ++ l) (append-nil ys ∙ e ∙ ap (λ k. replicate k y) n)

pub returns : goal.returns
returns c = ended c.args.nodes.now c.fill.new.self c.args.from Free c.requires (c.fill.ensures.after (λ y e. e))
