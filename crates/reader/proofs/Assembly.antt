-- From the parts of a condition or of a list to the whole. Assumes nothing.
use Rattle.std.proofs.Common.{◌≡◌, ℕ, zero, suc, ◌+◌, ◌-◌, ◌<◌, ◌≤◌, Bool, true, false, ◌≢◌, List, [], ◌∷◌, ◌++◌, length, take, drop, set, sym, refl, ap, ◌∙◌, subst, inr, ⊎_elim, append_assoc, arith, length-append}
use Rattle.std.proofs.lemmas.List.{take-append-le}
use Rattle.formulas.specs.declared.node.Node.{Node}
use Rattle.formulas.specs.declared.node.Node.TheVariants.{Compare, Not}
use Rattle.formulas.specs.declared.node.Side.{Side}
use Rattle.formulas.specs.declared.node.Relation.{Relation}
use Rattle.formulas.specs.declared.fault.Flaw.TheVariants.{Level}
use Rattle.formulas.specs.declared.fault.FormulaFault.{FormulaFault}
use Rattle.formulas.specs.Tree.{Condition, compares, negates, all, any, one, more, side_text, relation_text, text, list_text, not_word, and_word, or_word, KnownSide, Known, KnownAll}
use Rattle.formulas.specs.Faults.{next, First, count}
use Rattle.formulas.specs.Layout.{size, list_size, layout, list_layout, stored}
use Rattle.formulas.specs.Reading.{Spans, Clear, Deep, Ends, Awaits, AwaitsList, Follows, closes, goes_on, EndsSide}
use Rattle.formulas.proofs.Spans.{spans_split}
use Rattle.formulas.proofs.Awaits.{await_not, await_all, await_any, list_next, word_outside, too_deep, after_condition}
use Rattle.formulas.proofs.Firsts.{first_grammar, first_level}
use Rattle.formulas.proofs.Clears.{Plain, word_not, word_and, word_or, clear_bytes, clear_open, clear_close, clear_condition}
use Rattle.formulas.proofs.Levels.{count_append, deep_open, deep_flat, balanced, balanced_append}
use Rattle.formulas.proofs.Layouts.{size_layout, size_list, size_some, list_some, size_text, list_text_size, stored_set, stored_more, stored_length, below_kept}
use Rattle.reader.specs.declared.cursor.Text.{Text}
use Rattle.reader.specs.declared.cursor.Cursor.{Cursor}
use Rattle.reader.specs.declared.nested.Nested.{Nested}
use Rattle.reader.specs.declared.store.Store.{Store}
use Rattle.reader.specs.declared.join.Join.{Join}
use Rattle.reader.specs.declared.join.Join.TheVariants.{All, Any}
use Rattle.reader.specs.Places.{ahead, behind, Reads, Ready, FirstIn}
use Rattle.reader.specs.Stores.{Kept, Room}
use Rattle.reader.specs.Read.{outside, Misspelled, Opener, NotOpened, ReadOne, ReadList, joiner}
use Rattle.reader.proofs.Refusals.{told}
use Rattle.reader.proofs.Places.{ahead_in, reads_ahead, reads_join, behind_in, moved, on, clear_on}

-- one node more
one_more : (before mid last : List Node) (n u : ℕ) (new : List Node) (x : Node) → mid ≡ stored before n new → u ≡ n + length new → u < length before → last ≡ set mid u x → last ≡ stored before n (new ++ (x ∷ []))
one_more before mid last n u new x e f h g =
    let l : u < length (stored before n new) = omega (arith, stored_length before n new (omega arith)) in
    g ∙ ap (λ m. set m u x) e ∙ stored_set (stored before n new) u x l ∙ stored_more before n u new (x ∷ []) (omega arith) f

module _ {a : Nested} {old : Store} where
  pub read_comparison : {b c d : Cursor} {new : Store} (x : Side) (o : Relation) (y : Side) → Reads a.at (side_text x) b → Reads b (relation_text o) c → Reads c (side_text y) d
      → KnownSide a.at.text.now.cells x → KnownSide c.text.now.cells y → EndsSide y (ahead d) → old.used < length old.nodes.now → new.nodes.now ≡ set old.nodes.now old.used (Compare x o y) → new.used ≡ old.used + 1
      → ReadOne a old new d
  read_comparison x o y p q r k l e h stores count = record {
    is = compares x o y;
    reads = reads_join p (reads_join q r);
    known = (k, subst (λ (t : Text). KnownSide t.cells y) (q.text ∙ p.text) l);
    shallow = omega (arith, a.ready.shallow);
    ends = e;
    nodes = stores ∙ stored_set old.nodes.now old.used (Compare x o y) h;
    count = count;
  }

  pub read_not : {b : Nested} {c d : Cursor} {mid new : Store} {child : ℕ} → Reads a.at not_word b.at → b.level ≡ a.level + 1 → ReadOne b old mid c → Reads c (41 ∷ []) d
      → mid.used < length old.nodes.now → child ≡ mid.used - 1 → new.nodes.now ≡ set mid.nodes.now mid.used (Not child) → new.used ≡ mid.used + 1 → ReadOne a old new d
  read_not {mid = mid} {new = new} p deeper r q room is stores count = record {
    is = negates r.is;
    reads = reads_join p (reads_join r.reads q);
    known = subst (λ (t : Text). Known t.cells r.is) p.text r.known;
    shallow = omega (arith, r.shallow, deeper);
    ends = tt;
    nodes =
        let l = size_layout old.used r.is in
        one_more old.nodes.now mid.nodes.now new.nodes.now old.used mid.used (layout old.used r.is) (Not (old.used + size r.is - 1)) r.nodes (omega (arith, r.count)) room
        (stores ∙ ap (λ k. set mid.nodes.now mid.used (Not k)) (is ∙ ap (λ k. k - 1) r.count));
    count = omega (arith, r.count);
  }

  pub read_all : {b : Nested} {c : Cursor} {new : Store} → Reads a.at and_word b.at → b.level ≡ a.level + 1 → ReadList b All old new c → ReadOne a old new c
  read_all p deeper r = record { is = all r.are; reads = reads_join p r.reads; known = subst (λ (t : Text). KnownAll t.cells r.are) p.text r.known; shallow = omega (arith, r.shallow, deeper); ends = tt; nodes = r.nodes; count = r.count }

  pub read_any : {b : Nested} {c : Cursor} {new : Store} → Reads a.at or_word b.at → b.level ≡ a.level + 1 → ReadList b Any old new c → ReadOne a old new c
  read_any p deeper r = record { is = any r.are; reads = reads_join p r.reads; known = subst (λ (t : Text). KnownAll t.cells r.are) p.text r.known; shallow = omega (arith, r.shallow, deeper); ends = tt; nodes = r.nodes; count = r.count }

  pub read_last : {join : Join} {b c : Cursor} {new : Store} → ReadOne a old new b → Reads b (41 ∷ []) c → ReadList a join old new c
  read_last r q = record { are = one r.is; reads = reads_join r.reads q; known = r.known; shallow = r.shallow; nodes = r.nodes; count = r.count }

  pub read_more : {join : Join} {b d : Cursor} {c : Nested} {mid last new : Store} {first rest : ℕ} → ReadOne a old mid b → Reads b (44 ∷ []) c.at → c.level ≡ a.level → ReadList c join mid last d
      → last.used < length old.nodes.now → first ≡ mid.used - 1 → rest ≡ last.used - 1 → new.nodes.now ≡ set last.nodes.now last.used (joiner join first rest) → new.used ≡ last.used + 1 → ReadList a join old new d
  read_more {join} {d = d} {mid = mid} {last = last} {new = new} {rest = rest} x q same y room f g stores count =
      let n = old.used in
      let before = old.nodes.now in
      let la = size_layout n x.is in
      let lb = size_list (joiner join) mid.used y.are in
      let lb' = size_list (joiner join) (n + size x.is) y.are in
      let front = layout n x.is in
      let rear = list_layout (joiner join) (n + size x.is) y.are in
      let both : last.nodes.now ≡ stored before n (front ++ rear) =
      y.nodes ∙ ap (λ m. stored m mid.used (list_layout (joiner join) mid.used y.are)) x.nodes ∙ ap (λ k. stored (stored before n front) k (list_layout (joiner join) k y.are)) x.count
      ∙ stored_more before n (n + size x.is) front rear (omega (arith, x.count, y.count)) (omega arith) in
      record {
        are = more x.is y.are;
        reads = subst (λ w. Reads a.at w d) (sym (append_assoc (text x.is) (44 ∷ list_text y.are) (41 ∷ []))) (reads_join x.reads (reads_join q y.reads));
        known = (x.known, subst (λ (t : Text). KnownAll t.cells y.are) (q.text ∙ x.reads.text) y.known);
        shallow = omega (arith, x.shallow, y.shallow, same);
        nodes = one_more before last.nodes.now new.nodes.now n last.used (front ++ rear) (joiner join (n + size x.is - 1) (n + size x.is + list_size y.are - 1)) both
            (omega (arith, length-append front rear, x.count, y.count)) room
            (stores ∙ ap (λ k. set last.nodes.now last.used (joiner join k rest)) (f ∙ ap (λ k. k - 1) x.count)
            ∙ ap (λ k. set last.nodes.now last.used (joiner join (n + size x.is - 1) k)) (g ∙ ap (λ k. k - 1) (y.count ∙ ap (λ k. k + list_size y.are) x.count)))
            ∙ ap (stored before n) (append_assoc front rear _);
        count = omega (arith, x.count, y.count);
      }

-- the room that is left behind a word, and behind a condition
pub room_on : {old : Store} {a b : Cursor} {w : List ℕ} → Room old a → Reads a w b → Room old b
room_on r p = record { room = omega (arith, r.room, ap (λ (t : Text). length t.bytes.now) p.text, p.spans.upto) }

pub room_read : {a : Nested} {b : Cursor} {old new : Store} → Room old a.at → ReadOne a old new b → (1 ≤ new.used) × (new.used < length old.nodes.now)
room_read r x = (omega (arith, x.count, size_some x.is), omega (arith, r.room, x.count, size_text x.is, x.reads.spans.upto, x.reads.spans.within))

pub room_list : {a : Nested} {b : Cursor} {join : Join} {old new : Store} → Room old a.at → ReadList a join old new b → (1 ≤ new.used) × (new.used < length old.nodes.now)
room_list r x = (
  omega (arith, x.count, list_some x.are),
  omega (arith, r.room, x.count, list_text_size x.are, x.reads.spans.upto, x.reads.spans.within, length-append (list_text x.are) (41 ∷ [])),
)

pub room_after : {a : Nested} {b : Cursor} {old new : Store} → Room old a.at → ReadOne a old new b → Kept old new → Room new b
room_after r x k = record { room = omega (arith, r.room, k.long, x.count, size_text x.is, x.reads.spans.upto, ap (λ (t : Text). length t.bytes.now) x.reads.text) }

pub kept_join : {a b c : Store} → a.used ≤ b.used → Kept a b → Kept b c → Kept a c
kept_join {a} {b} {c} h p q = record { loan = p.loan ∙ q.loan; long = q.long ∙ p.long; kept = below_kept a.nodes.now b.nodes.now c.nodes.now a.used b.used h q.kept p.kept }

-- an opening word is plain up to its bracket
opener : {w : List ℕ} → Opener w → (v : List ℕ) × (w ≡ v ++ (40 ∷ [])) × Plain v × (count 40 v ≡ count 41 v)
opener o = ⊎_elim (λ e. (78 ∷ 79 ∷ 84 ∷ [], e, word_not, refl)) (λ q. ⊎_elim (λ e. (65 ∷ 78 ∷ 68 ∷ [], e, word_and, refl)) (λ e. (79 ∷ 82 ∷ [], e, word_or, refl)) q) o

-- where a condition can begin: behind an opening word, and behind a condition and a comma
pub ready_open : (a : Nested) {b : Cursor} {w : List ℕ} → a.at.text.now.cells ≤ 1000000 → Opener w → Reads a.at w b → a.level < 16 → Ready b (a.level + 1)
ready_open a {b} many o p low = let v = opener o in behind_bracket v.0 v.2 v.3 (subst (λ w. Reads a.at w b) v.1 p)
  where
    opens : (w : List ℕ) → count 40 w ≡ count 41 w → count 40 (w ++ (40 ∷ [])) ≡ count 41 (w ++ (40 ∷ [])) + 1
    opens w e = omega (arith, e, count_append 40 w (40 ∷ []), count_append 41 w (40 ∷ []))

    behind_bracket : (w : List ℕ) → Plain w → count 40 w ≡ count 41 w → Reads a.at (w ++ (40 ∷ [])) b → Ready b (a.level + 1)
    behind_bracket w plain flat p = record {
      clear = clear_on p (clear_open many w plain flat a.ready.clear p.spans a.ready.deep low);
      deep = on (λ t. Deep t.bytes.now b.at (a.level + 1)) p (deep_open p.spans (opens w flat) a.ready.deep);
      some = omega arith;
      shallow = omega arith;
    }

pub ready_comma : {a : Nested} {b c : Cursor} {old new : Store} → a.at.text.now.cells ≤ 1000000 → ReadOne a old new b → Reads b (44 ∷ []) c → Ready c a.level
ready_comma {a} {b} {c} many x q = record {
  clear = moved (λ t k. Clear t.cells t.bytes.now k) q
      (clear_close (on (λ t. t.cells ≤ 1000000) x.reads many) 44 (inr refl) (clear_on x.reads (clear_condition many x.is a.ready.clear a.ready.deep x.reads.spans x.known x.shallow (subst (Ends x.is) (ahead_in x.reads) x.ends))) (reads_ahead q));
  deep = let all = reads_join x.reads q in on (λ t. Deep t.bytes.now c.at a.level) all (deep_flat all.spans (balanced_append (text x.is) (44 ∷ []) (balanced x.is) refl) a.ready.deep);
  some = a.ready.some;
  shallow = a.ready.shallow;
}

plain_take : (i : ℕ) (w : List ℕ) → Plain w → Plain (take i w)
plain_take zero w a = tt
plain_take (suc i) [] a = tt
plain_take (suc i) (b ∷ w) a = (a.0, plain_take i w a.1)

-- a word that does not open a bracket is the first fault
pub not_opened : {o : List Bool} (a : Nested) (e : FormulaFault) (w z : List ℕ) (y : Condition) → a.at.text.now.cells ≤ 1000000 → Awaits o (behind a.at) → Plain w → count 40 w ≡ count 41 w → text y ≡ (w ++ (40 ∷ [])) ++ z
    → ((c : Condition) (t : List ℕ) → next (text c ++ t) ≡ ahead a.at → (x : List ℕ) × (text c ++ t ≡ (w ++ (40 ∷ [])) ++ x))
    → NotOpened a.at.text.now.bytes.now a.at.at (w ++ (40 ∷ [])) a.level e → FirstIn a.at e
unfolding too_deep
not_opened {o} a e w z y many awaits plain flat spells kind r = ⊎_elim misspelled deep r
  where
    s : List ℕ
    s = a.at.text.now.bytes.now

    misspelled : Misspelled s a.at.at (w ++ (40 ∷ [])) e → FirstIn a.at e
    misspelled m =
        let short : m.seen ≤ length w = omega (arith, m.more, length-append w (40 ∷ [])) in
        let cut : take m.seen (w ++ (40 ∷ [])) ≡ take m.seen w = take-append-le m.seen w (40 ∷ []) short in
        subst (λ f. First a.at.text.now.cells s f e.offset) (sym m.flaw)
        (first_grammar (word_outside (w ++ (40 ∷ [])) z y awaits spells kind m.more m.spells m.wrong)
        (clear_bytes many (take m.seen w) (plain_take m.seen w plain) a.ready.clear (subst (λ v. Spans s a.at.at v e.offset) cut m.spells)))

    deep : (e.flaw ≡ Level) × Spans s a.at.at (w ++ (40 ∷ [])) e.offset × (a.level ≡ 16) → FirstIn a.at e
    deep m =
        subst (λ f. First a.at.text.now.cells s f e.offset) (sym m.0)
        (first_level (too_deep w z y awaits spells flat m.1 (subst (Deep s a.at.at) m.2 a.ready.deep)) (clear_bytes many w plain a.ready.clear (spans_split w (40 ∷ []) m.1).0))

-- neither a comma nor a bracket after a condition
pub not_followed : {b : Bool} {o : List Bool} {a : Nested} {c : Cursor} {old new : Store} {e : FormulaFault} → a.at.text.now.cells ≤ 1000000 → Awaits (b ∷ o) (behind a.at)
    → (r : ReadOne a old new c) → ahead c ≢ 41 → (b ≡ true → ahead c ≢ 44) → e ≡ outside c.at → FirstIn a.at e
not_followed {b} {o} {a} {c} many awaits r f g is =
    told is (first_grammar (after_condition r.is awaits r.reads.spans ends wrong) (clear_condition many r.is a.ready.clear a.ready.deep r.reads.spans r.known r.shallow ends))
  where
    seen : ahead c ≡ next (drop c.at a.at.text.now.bytes.now)
    seen = ahead_in r.reads

    ends : Ends r.is (next (drop c.at a.at.text.now.bytes.now))
    ends = subst (Ends r.is) seen r.ends

    wrong : (t : List ℕ) → Follows (b ∷ o) t → next t ≢ next (drop c.at a.at.text.now.bytes.now)
    wrong t h e = go b t h g (e ∙ sym seen)
      where
        go : (x : Bool) (t : List ℕ) → Follows (x ∷ o) t → (x ≡ true → ahead c ≢ 44) → next t ≡ ahead c → ⊥
        go x t (closes q) g e = f (sym e)
        go true t (goes_on cs q) g e = g refl (sym e)

-- what is awaited inside a bracket, after a comma
pub inside_not : {o : List Bool} {a b : Cursor} → Awaits o (behind a) → Reads a not_word b → Awaits (false ∷ o) (behind b)
inside_not {o} {a} {b} w p = subst (Awaits (false ∷ o)) (sym (behind_in p)) (await_not (behind a) w)

pub inside_all : {o : List Bool} {a b : Cursor} → Awaits o (behind a) → Reads a and_word b → (q : List Bool) × AwaitsList q (behind b)
inside_all {o} {a} {b} w p = (o, subst (AwaitsList o) (sym (behind_in p)) (await_all (behind a) w))

pub inside_any : {o : List Bool} {a b : Cursor} → Awaits o (behind a) → Reads a or_word b → (q : List Bool) × AwaitsList q (behind b)
inside_any {o} {a} {b} w p = (o, subst (AwaitsList o) (sym (behind_in p)) (await_any (behind a) w))

pub after_comma : {o : List Bool} {a b c : Cursor} (x : Condition) → AwaitsList o (behind a) → Reads a (text x) b → Reads b (44 ∷ []) c → (q : List Bool) × AwaitsList q (behind c)
after_comma {o} {a} x w p q = (o, subst (AwaitsList o) (sym (behind_in (reads_join p q))) (list_next (behind a) x w))
