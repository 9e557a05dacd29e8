-- The calls among some lines, line by line. Assumes nothing.
use Rattle.std.proofs.Common.{◌≡◌, List, [], ◌∷◌, ◌++◌, Some, None, Option, sym, refl, ap, ◌∙◌, append-nil}
use mathlib.Core.List.{map-append}
use Rattle.std.specs.List.{cons_option}
use Rattle.bits.proofs.Lists.{each_push}
use Rattle.calls.specs.declared.call.Call.{Call}
use Rattle.calls.specs.declared.step.Step.{Step}
use Rattle.calls.specs.Plays.{sizes}
use Rattle.script.specs.declared.line.Line.{Line}
use Rattle.script.specs.declared.line.Line.TheVariants.{Blank, Call as CallLine, Turn, NotUnderstood}
use Rattle.replaying.specs.Sessions.{call_of, calls_of, room_of, Prepared}

onto : {X : Type 0} (o : Option X) (xs ys : List X) → cons_option o (xs ++ ys) ≡ cons_option o xs ++ ys
onto None xs ys = refl
onto (Some x) xs ys = refl

calls_push : (ls : List Line) (l : Line) → calls_of (ls ++ (l ∷ [])) ≡ calls_of ls ++ cons_option (call_of l) []
calls_push [] l = refl
calls_push (k ∷ ls) l = ap (cons_option (call_of k)) (calls_push ls l) ∙ onto (call_of k) (calls_of ls) (cons_option (call_of l) [])

not_call : (l : Line) → ((call : Call) → l ≡ CallLine call → ⊥) → call_of l ≡ None
not_call Blank h = refl
not_call (CallLine call) h = absurd (h call refl)
not_call (Turn flags) h = refl
not_call NotUnderstood h = refl

pub prepared_skip : (l : Line) → ((call : Call) → l ≡ CallLine call → ⊥) → (ls : List Line) (before : List Step) → Prepared ls before → Prepared (ls ++ (l ∷ [])) before
prepared_skip l h ls before p = record {
  calls = p.calls ∙ sym (calls_push ls l ∙ ap (λ o. calls_of ls ++ cons_option o []) (not_call l h) ∙ append-nil (calls_of ls));
  room = p.room;
}

pub prepared_push : (l : Line) (call : Call) (b : Step) → l ≡ CallLine call → (b.call ≡ call) × (sizes b.buffers ≡ room_of b.call) → (ls : List Line) (before : List Step) → Prepared ls before → Prepared (ls ++ (l ∷ [])) (before ++ (b ∷ []))
prepared_push l call b e h ls before p = record {
  calls =
      map-append (λ (b : Step). b.call) before (b ∷ []) ∙ ap (λ cs. cs ++ (b.call ∷ [])) p.calls ∙ ap (λ c. calls_of ls ++ (c ∷ [])) h.0
      ∙ sym (calls_push ls l ∙ ap (λ k. calls_of ls ++ cons_option (call_of k) []) e);
  room = each_push (λ (b : Step). sizes b.buffers ≡ room_of b.call) before b p.room h.1;
}
