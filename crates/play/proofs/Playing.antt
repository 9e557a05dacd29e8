-- The loop over the calls: those made and those to come are one play of them all. Assumes nothing.
use Rattle.std.proofs.Common.{◌≡◌, ℕ, ◌+◌, ◌<◌, ◌≤◌, Bool, true, false, List, [], ◌∷◌, ◌++◌, length, get_or, take, drop, set, replicate, None, Option, sym, refl, ap, ◌∙◌, subst₂, arith}
use Rattle.std.proofs.lemmas.List.{append-nil, append_assoc, take_more, take_more_set, take_all, drop_more, drop-set-lt, drop-drop, get_or-replicate}
use Rattle.clash.specs.declared.fitted.Fitted.{Fitted as Values}
use Rattle.calls.specs.declared.step.Step.{Step}
use Rattle.calls.specs.Sheet.{Sheet}
use Rattle.calls.specs.History.{Did}
use Rattle.calls.specs.Plays.{did, Makes, Plays, Plays.none, Plays.more}
use Rattle.calls.proofs.Promising.{none_valid}
use Rattle.session.specs.declared.table.Table.{Table}
use Rattle.play.specs.Held.{Holds, latest}

-- the calls of two lists of steps
pub latest_concat : (h : List Did) (xs ys : List Step) → latest h (xs ++ ys) ≡ latest (latest h xs) ys
latest_concat h [] ys = refl
latest_concat h (x ∷ xs) ys = latest_concat (did x ∷ h) xs ys

module _ {S : Type 0} (s : Sheet) (F : List Did → S → Step → Step → Values → S → Type 0) where
  -- after the calls h, what follows from here follows from the start
  abbrev pub MorePlays : S → List Step → List Step → List Did → S → Type 0
  MorePlays x₀ done done' h x = (before after : List Step) (y : S) → Plays s F h x before after y → Plays s F [] x₀ (done ++ before) (done' ++ after) y

  module _ (entry now : List Step) (i : ℕ) (x y : Step) (lt : i < length now) (long : length now ≡ length entry) (same : drop i now ≡ drop i entry) (item : x ≡ get_or now i x) where
    here : get_or entry i x ≡ x
    here = sym (ap (λ (xs : List Step). get_or xs 0 x) (sym (drop_more now i x lt) ∙ same ∙ drop_more entry i x (omega arith))) ∙ sym item

    pub drop_next : drop (i + 1) (set now i y) ≡ drop (i + 1) entry
    drop_next = drop-set-lt (i + 1) now i y (omega arith) ∙ sym (drop-drop 1 i now) ∙ ap (drop 1) same ∙ drop-drop 1 i entry

    take_next : take (i + 1) entry ≡ take i entry ++ x ∷ []
    take_next = take_more entry i x (omega arith) ∙ ap (λ (z : Step). take i entry ++ z ∷ []) here

    pub plays_more : {h : List Did} {x₀ u v : S} → Makes s F h u x y v → MorePlays x₀ (take i entry) (take i now) h u → MorePlays x₀ (take (i + 1) entry) (take (i + 1) (set now i y)) (did y ∷ h) v
    plays_more {x₀ = x₀} d k before after w p =
        subst₂ (λ (xs ys : List Step). Plays s F [] x₀ xs ys w)
        (sym (ap (λ (xs : List Step). xs ++ before) take_next ∙ append_assoc (take i entry) (x ∷ []) before))
        (sym (ap (λ (xs : List Step). xs ++ after) (take_more_set now i y lt) ∙ append_assoc (take i now) (y ∷ []) after))
        (k (x ∷ before) (y ∷ after) w (more d p))

    pub latest_more : {h : List Did} → latest [] (take i now) ≡ h → latest [] (take (i + 1) (set now i y)) ≡ did y ∷ h
    latest_more e = ap (latest []) (take_more_set now i y lt) ∙ latest_concat [] (take i now) (y ∷ []) ∙ ap (λ (h : List Did). did y ∷ h) e

  pub plays_end : {h : List Did} {x₀ x : S} (entry now : List Step) (i : ℕ) → length entry ≤ i → length now ≡ length entry → MorePlays x₀ (take i entry) (take i now) h x → Plays s F [] x₀ entry now x
  plays_end {x₀ = x₀} {x} entry now i le long k =
      subst₂ (λ (xs ys : List Step). Plays s F [] x₀ xs ys x) (append-nil (take i entry) ∙ take_all i entry le) (append-nil (take i now) ∙ take_all i now (omega arith)) (k [] [] x none)

-- a table just made
pub holds_none : (lengths : List ℕ) (t : Table) → t.pins ≡ replicate 64 None → t.switches ≡ replicate 64 true → Holds lengths [] t
holds_none lengths t p q = record {
  long = ap length p;
  wide = ap length q;
  pins = λ c lt. ap (λ (xs : List (Option ℕ)). get_or xs c None) p ∙ get_or-replicate 64 c None None lt;
  switches = λ r lt. ap (λ (xs : List Bool). get_or xs r false) q ∙ get_or-replicate 64 r true false lt;
  valid = none_valid lengths;
}
