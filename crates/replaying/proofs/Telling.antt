-- What is told of some lines, line by line, and session by session. Assumes nothing.
use Rattle.std.proofs.Common.{◌≡◌, ℕ, ◌+◌, ◌<◌, ◌≤◌, Bool, true, false, List, [], ◌∷◌, ◌++◌, length, get_or, take, drop, sym, refl, ap, ◌∙◌, subst, append-nil, add-one, arith}
use Rattle.std.proofs.Math.Seq.{drop-cons}
use Rattle.std.proofs.lemmas.List.{take_more, take_all, drop_all, length-take-le, take-append-drop}
use Rattle.calls.specs.declared.step.Step.{Step}
use Rattle.script.specs.declared.line.Line.{Line}
use Rattle.script.specs.declared.line.Line.TheVariants.{Blank, Call as CallLine, Turn, NotUnderstood}
use Rattle.sheets.specs.Sheet.{Sheet as Stated}
use Rattle.replaying.specs.Sessions.{told}
use Rattle.replaying.specs.Replays.{stays, AllStay, TurnedText, Sessions, next}

-- one more line
pub told_more : (cells first i : ℕ) (lines : List Line) (d l : Line) (rest later : List Step) (a b z : List ℕ) → i < length lines → get_or lines i d ≡ l
    → ((ls : List Line) → b ++ told cells (first + i + 1) ls later ≡ a ++ told cells (first + i) (l ∷ ls) rest)
    → a ++ told cells (first + i) (drop i lines) rest ≡ z → b ++ told cells (first + (i + 1)) (drop (i + 1) lines) later ≡ z
told_more cells first i lines d l rest later a b z h e f g =
    let n : first + (i + 1) ≡ first + i + 1 = omega arith in
    let k : l ∷ drop (i + 1) lines ≡ drop i lines = ap (λ x. x ∷ drop (i + 1) lines) (sym e) ∙ ap (λ j. get_or lines i d ∷ drop j lines) (add-one i) ∙ sym (drop-cons lines i d h) in
    ap (λ j. b ++ told cells j (drop (i + 1) lines) later) n ∙ f (drop (i + 1) lines) ∙ ap (λ ls. a ++ told cells (first + i) ls rest) k ∙ g

-- no more lines
pub told_end : (cells first i : ℕ) (lines : List Line) (rest : List Step) (a z : List ℕ) → length lines ≤ i → a ++ told cells (first + i) (drop i lines) rest ≡ z → a ≡ z
told_end cells first i lines rest a z h e = sym (ap (λ ls. a ++ told cells (first + i) ls rest) (drop_all i lines h) ∙ append-nil a) ∙ e

-- ---- lines that begin no session
not_turn : (l : Line) → ((flags : List Bool) → l ≡ Turn flags → ⊥) → stays l ≡ true
not_turn Blank h = refl
not_turn (CallLine call) h = refl
not_turn (Turn flags) h = absurd (h flags refl)
not_turn NotUnderstood h = refl

stay_push : (ls : List Line) (l : Line) → AllStay ls → stays l ≡ true → AllStay (ls ++ (l ∷ []))
stay_push [] l a e = (e, tt)
stay_push (k ∷ ls) l a e = (a.0, stay_push ls l a.1 e)

pub stay_more : (lines : List Line) (i : ℕ) (d : Line) → i < length lines → AllStay (take i lines) → ((flags : List Bool) → get_or lines i d ≡ Turn flags → ⊥) → AllStay (take (i + 1) lines)
stay_more lines i d h a n = subst AllStay (sym (take_more lines i d h)) (stay_push (take i lines) (get_or lines i d) a (not_turn (get_or lines i d) n))

pub stay_all : (lines : List Line) (i : ℕ) → length lines ≤ i → AllStay (take i lines) → AllStay lines
stay_all lines i h a = subst AllStay (take_all i lines h) a

same_get : (lines : List Line) (i : ℕ) (d e : Line) → i < length lines → get_or lines i d ≡ get_or lines i e
same_get [] i d e h = absurd (omega arith)
same_get (l ∷ lines) Prim.Native.Nat.zero d e h = refl
same_get (l ∷ lines) (Prim.Native.Nat.suc i) d e h = same_get lines i d e (omega arith)

pub turn_found : (lines : List Line) (i : ℕ) (d : Line) (flags : List Bool) → i < length lines → AllStay (take i lines) → get_or lines i d ≡ Turn flags → (i < length lines) × AllStay (take i lines) × (stays (get_or lines i Blank) ≡ false)
turn_found lines i d flags h a e = (h, a, ap stays (same_get lines i Blank d h ∙ e))

-- a session, and those from the next turn on
pub sessions_more : (s : Stated) (lines : List Line) (i n : ℕ) (d : Line) (flags turn : List Bool) (t u : List ℕ) → i < length lines → AllStay (take i lines) → get_or lines i d ≡ Turn turn
    → TurnedText s flags n (take i lines) t → Sessions s turn (n + (i + 1)) (drop (i + 1) lines) u → Sessions s flags n lines (t ++ u)
sessions_more s lines i n d flags turn t u h a e one rest =
    let k : take i lines ++ (Turn turn ∷ drop (i + 1) lines) ≡ lines =
    ap (λ l. take i lines ++ (l ∷ drop (i + 1) lines)) (sym e) ∙ ap (λ j. take i lines ++ (get_or lines i d ∷ drop j lines)) (add-one i) ∙ ap (λ ls. take i lines ++ ls) (sym (drop-cons lines i d h)) ∙ take-append-drop i lines in
    let m : n + (i + 1) ≡ n + length (take i lines) + 1 = omega (arith, length-take-le i lines (omega arith)) in
    subst (λ ls. Sessions s flags n ls (t ++ u)) k (next a one (subst (λ j. Sessions s turn j (drop (i + 1) lines) u) m rest))

pub sessions_step : (s : Stated) (lines ls left : List Line) (i n : ℕ) (d : Line) (flags turn : List Bool) (t u : List ℕ) → ls ≡ take i lines → left ≡ drop (i + 1) lines
    → (i < length lines) × AllStay (take i lines) × (stays (get_or lines i Blank) ≡ false) → (stays (get_or lines i d) ≡ false → get_or lines i d ≡ Turn turn)
    → TurnedText s flags n ls t → Sessions s turn (n + (i + 1)) left u → Sessions s flags n lines (t ++ u)
sessions_step s lines ls left i n d flags turn t u e f h g one rest =
    sessions_more s lines i n d flags turn t u h.0 h.1 (g (ap stays (same_get lines i d Blank h.0) ∙ h.2)) (subst (λ l. TurnedText s flags n l t) e one) (subst (λ l. Sessions s turn (n + (i + 1)) l u) f rest)
