-- What the search for a core comes to, over any relation of runs whose lines are right. Assumes nothing.
use Rattle.std.proofs.Common.{◌≡◌, ℕ, zero, suc, ◌+◌, ◌-◌, ◌*◌, ◌/◌, ◌^◌, ◌<◌, ◌≤◌, ◌⊎◌, List, [], ◌++◌, length, get_or, take, sym, refl, ap, ◌∙◌, subst, inl, inr, ⊎_elim, add-mul, one-mul, pow-suc, arith, length-append}
use lib.Bits.{bit_or}
use Rattle.std.proofs.lemmas.Bool.{cases_eq}
use Rattle.std.proofs.lemmas.List.{take_all}
use Rattle.std.specs.List.{AllByRecursion}
use Rattle.bits.proofs.Lists.{each_append}
use Rattle.bits.specs.Sets.{In, Subset, members, size, set_of}
use Rattle.bits.proofs.Bits.{has_pow, has_zero, out_same, out_other, has_left, has_right, or_has, or_mono, or_subset}
use Rattle.bits.proofs.SetOf.{first_mono, first_more, has_first, has_set, members_subset, set_empty, subset_members}
use Rattle.bits.proofs.Size.{size_add, size_sub, size_zero}
use Rattle.bits.proofs.Same.{size_lt, subset_small}
use Rattle.bits.proofs.Members.{member_has}
use Rattle.runs.specs.declared.line.Line.{Line}
use Rattle.runs.specs.declared.line.Verdict.{Verdict}
use Rattle.runs.specs.declared.line.Verdict.TheVariants.{Met, Unmet}
use Rattle.runs.specs.Law.{Right}
use Rattle.cores.specs.Core.{Core, Short, Outcome, RightFit}
use Rattle.cores.specs.Fit.{with_first, with_rule, Lawful, Gives, Shrinks, Shrinks.all, Shrinks.fewer, Halves, Halves.met, Halves.down, Halves.up, Rounds, Rounds.alone, Rounds.round, Fit, Fit.fills, Fit.clashes}

half_down : (lo hi L : ℕ) → lo < hi → hi - lo + 1 ≤ 2 * L → (lo + hi) / 2 - lo + 1 ≤ L
half_down lo hi L lt h = omega arith

half_up : (lo hi L : ℕ) → lo < hi → hi - lo + 1 ≤ 2 * L → hi - ((lo + hi) / 2 + 1) + 1 ≤ L
half_up lo hi L lt h = omega arith

short : (ls ms total on c k found L : ℕ) → total ≡ ls + ms → ls + c ≤ on → ms ≤ 1 + k + k * L → k ≤ c → found ≡ k → suc total ≤ on + 2 + found * L
short ls ms total on c k found L h1 h2 h3 h4 h5 = let e : found * L ≡ k * L = ap (λ (x : ℕ). x * L) h5 in omega arith

-- room for the lines of a halving, one less after each
pub room_down : (lo hi L lines most : ℕ) → lo < hi → hi - lo + 1 ≤ 2 ^ L → lines + L ≤ most → (K : ℕ) × ((lo + hi) / 2 - lo + 1 ≤ 2 ^ K) × (lines + 1 + K ≤ most)
room_down lo hi zero lines most lt h k = absurd (omega arith)
room_down lo hi (suc L) lines most lt h k = (L, half_down lo hi (2 ^ L) lt (let e = pow-suc 2 L in omega arith), omega arith)

pub room_up : (lo hi L lines most : ℕ) → lo < hi → hi - lo + 1 ≤ 2 ^ L → lines + L ≤ most → (K : ℕ) × (hi - ((lo + hi) / 2 + 1) + 1 ≤ 2 ^ K) × (lines + 1 + K ≤ most)
room_up lo hi zero lines most lt h k = absurd (omega arith)
room_up lo hi (suc L) lines most lt h k = (L, half_up lo hi (2 ^ L) lt (let e = pow-suc 2 L in omega arith), omega arith)

pub room_here : (lo hi L lines most : ℕ) → lo < hi → hi - lo + 1 ≤ 2 ^ L → lines + L ≤ most → lines < most
room_here lo hi L lines most lt h k = let q = room_down lo hi L lines most lt h k in omega (arith, q.2)

-- a run of rules that clash says so
pub says_clash : {Fits : ℕ → Type 0} {l : Line} (a : ℕ) → Right Fits l → l.listed ≡ a → (Fits a → ⊥) → l.verdict ≡ Unmet
says_clash {Fits} {l} a r e h = go l.verdict refl
  where
    go : (v : Verdict) → l.verdict ≡ v → l.verdict ≡ Unmet
    go Met i = absurd (h (subst Fits e (r.fits i)))
    go Unmet i = i

module _ {S O : Type 0} (R : S → Line → O → S → Type 0) (Fits : ℕ → Type 0) (law : Lawful R Fits) where
  right : {s t : S} {l : Line} {o : O} → R s l o t → Right Fits l
  right p = law.right p

  less : (a b : ℕ) → Subset a b → Fits b → Fits a
  less a b h f = law.less a b h f

  fits : {a : ℕ} {s t : S} {l : Line} {o : O} → Gives R a Met s l o t → Fits a
  fits g = subst Fits g.lists ((right g.run).fits g.says)

  used_in : {a : ℕ} {s t : S} {l : Line} {o : O} → Gives R a Unmet s l o t → Subset l.used a
  used_in {l = l} g = subst (Subset l.used) g.lists ((right g.run).among g.says)

  clash : {a : ℕ} {s t : S} {l : Line} {o : O} → Gives R a Unmet s l o t → Fits a → ⊥
  clash {a} {l = l} g f = (right g.run).clash g.says (less l.used a (used_in g) f)

  -- ---- shrinking
  pub shrinks_law : {c : ℕ} {s t : S} {l : Line} {ls : List Line} → Shrinks R l s ls c t → l.listed < 2 ^ 64 → Subset l.used l.listed → (Fits l.used → ⊥)
      → Subset c l.listed × (Fits c → ⊥) × (length ls + size c ≤ size l.listed)
  shrinks_law {l = l} (all e) h sub no-fill = (λ r k. k, subst (λ (x : ℕ). Fits x → ⊥) e no-fill, omega arith)
  shrinks_law {c} {l = l} (fewer {m = m} ne g p) h sub no-fill =
      let small = subset_small l.used l.listed sub h in
      let e = g.lists in
      let q = shrinks_law p (rw e small) ((right g.run).among g.says) ((right g.run).clash g.says) in (
        λ r k. sub r (subst (λ (x : ℕ). In x r) e (q.0 r k)),
        q.1,
        (let lt = size_lt l.used l.listed small h sub ne in let b = q.2 in let z = ap size e in omega arith),
      )

  -- ---- halving
  pub halves_law : {found : ℕ} {cs : List ℕ} {lo hi j : ℕ} {s t : S} {ls : List Line} → Halves R found cs lo hi s ls j t
      → 1 ≤ lo → lo ≤ hi → Fits (with_first found (lo - 1) cs) → (Fits (with_first found hi cs) → ⊥)
      → (lo ≤ j) × (j ≤ hi) × Fits (with_first found (j - 1) cs) × (Fits (with_first found j cs) → ⊥)
  halves_law {found} {cs} (met e) h1 h2 f c = (omega arith, omega arith, f, subst (λ (x : ℕ). Fits (with_first found x cs) → ⊥) (sym e) c)
  halves_law {found} {cs} {lo} {hi} {j} (down lt g p) h1 h2 f c =
      let q = halves_law p h1 (omega arith) f (clash g) in
      (q.0, omega (arith, q.1), q.2, q.3)
  halves_law {found} {cs} {lo} {hi} {j} (up lt g p) h1 h2 f c =
      let e : (lo + hi) / 2 ≡ (lo + hi) / 2 + 1 - 1 = omega arith in
      let q = halves_law p (omega arith) (omega arith) (subst (λ (x : ℕ). Fits (with_first found x cs)) e (fits g)) c in
      (omega (arith, q.0), q.1, q.2, q.3)

  pub halves_short : {found : ℕ} {cs : List ℕ} {lo hi j : ℕ} {s t : S} {ls : List Line} → Halves R found cs lo hi s ls j t
      → (L : ℕ) → hi - lo + 1 ≤ 2 ^ L → length ls ≤ L
  halves_short (met e) L h = omega arith
  halves_short {found} {cs} {lo} {hi} (down lt g p) zero h = absurd (omega arith)
  halves_short {found} {cs} {lo} {hi} (down lt g p) (suc L) h =
      let k = halves_short p L (half_down lo hi (2 ^ L) lt (let e = pow-suc 2 L in omega arith)) in omega arith
  halves_short {found} {cs} {lo} {hi} (up lt g p) zero h = absurd (omega arith)
  halves_short {found} {cs} {lo} {hi} (up lt g p) (suc L) h =
      let k = halves_short p L (half_up lo hi (2 ^ L) lt (let e = pow-suc 2 L in omega arith)) in omega arith

  -- ---- rounds
  -- what lies ahead of a round: the found rules and the first n candidates clash, and each found rule is needed for that
  pub record Ahead (on : ℕ) (cs : List ℕ) (found n : ℕ) : Type 0 where
    pub most : n ≤ length cs
    pub among : Subset found on
    pub clash : Fits (with_first found n cs) → ⊥
    pub needed : (r : ℕ) → In found r → (a : ℕ) → Subset a (with_first found n cs) → (In a r → ⊥) → Fits a

  first_none : (found n : ℕ) (cs : List ℕ) → n ≡ 0 → Subset (with_first found n cs) found
  first_none found zero cs e = or_subset found (set_of []) found (λ r h. h) (λ r h. absurd (set_empty r h))
  first_none found (suc n) cs e = absurd (omega arith)

  module _ (on : ℕ) (cs : List ℕ) (small : (i : ℕ) → i < length cs → get_or cs i 0 < 64) (ons : Subset (set_of cs) on) where
    -- the found rules and the first candidates are on
    pub first_among : {found n : ℕ} (j : ℕ) → Ahead on cs found n → Subset (with_first found j cs) on
    first_among {found} j a = or_subset found (set_of (take j cs)) on a.among
        (λ r h. ons r (subst (λ (xs : List ℕ). In (set_of xs) r) (take_all (length cs + j) cs (omega arith)) (first_mono j (length cs + j) cs (omega arith) r h)))

    -- the found rules and the candidates to j, among those with candidate j found and the ones before it
    grown : (found j : ℕ) → 1 ≤ j → j ≤ length cs → Subset (with_first found j cs) (with_first (with_rule found j cs) (j - 1) cs)
    grown found j h k =
        let r = get_or cs (j - 1) 0 in
        or_subset found (set_of (take j cs)) (with_first (bit_or found (2 ^ r)) (j - 1) cs)
        (λ q p. has_left (bit_or found (2 ^ r)) (set_of (take (j - 1) cs)) q (has_left found (2 ^ r) q p))
        (λ q p. ⊎_elim (has_right (bit_or found (2 ^ r)) (set_of (take (j - 1) cs)) q)
        (λ e. has_left (bit_or found (2 ^ r)) (set_of (take (j - 1) cs)) q (has_right found (2 ^ r) q e))
        (or_has (set_of (take (j - 1) cs)) (2 ^ r) q (first_more j cs h k q p)))

    -- the other way: a rule of the later set is a rule of the earlier one, or candidate j
    grown_back : (found j q : ℕ) → In (with_first (with_rule found j cs) (j - 1) cs) q → In (with_first found (j - 1) cs) q ⊎ (q ≡ get_or cs (j - 1) 0)
    grown_back found j q h =
        let r = get_or cs (j - 1) 0 in
        ⊎_elim (λ k. ⊎_elim (λ a. inl (has_left found (set_of (take (j - 1) cs)) q a)) (λ b. inr (has_pow r q b)) (or_has found (2 ^ r) q k))
        (λ k. inl (has_right found (set_of (take (j - 1) cs)) q k))
        (or_has (bit_or found (2 ^ r)) (set_of (take (j - 1) cs)) q h)

    -- candidate j is not found yet
    new : (found j : ℕ) → 1 ≤ j → j ≤ length cs → Fits (with_first found (j - 1) cs) → (Fits (with_first found j cs) → ⊥) → In found (get_or cs (j - 1) 0) → ⊥
    new found j h k f c p = c (less (with_first found j cs) (with_first found (j - 1) cs)
        (λ q m. ⊎_elim (λ x. x) (λ e. has_left found (set_of (take (j - 1) cs)) q (subst (In found) (sym e) p)) (grown_back found j q (grown found j h k q m))) f)

    next : (found n j : ℕ) → Ahead on cs found n → 1 ≤ j → j ≤ n → Fits (with_first found (j - 1) cs) → (Fits (with_first found j cs) → ⊥)
        → Ahead on cs (with_rule found j cs) (j - 1)
    next found n j a h k f c =
        let r = get_or cs (j - 1) 0 in
        let most : n ≤ length cs = a.most in
        let at : j - 1 < length cs = omega arith in
        let long : j ≤ length cs = omega arith in
        record {
          most = omega arith;
          among = or_subset found (2 ^ r) on a.among (λ q p. ons q (subst (In (set_of cs)) (sym (has_pow r q p)) (has_set cs (j - 1) at)));
          clash = λ x. c (less (with_first found j cs) (with_first (bit_or found (2 ^ r)) (j - 1) cs) (grown found j h long) x);
          needed = λ q p b sub out. ⊎_elim
              (λ old. a.needed q old b (λ x m. ⊎_elim
              (λ w. or_mono found (set_of (take (j - 1) cs)) (set_of (take n cs)) (first_mono (j - 1) n cs (omega arith)) x w)
              (λ e. has_right found (set_of (take n cs)) x (subst (In (set_of (take n cs))) (sym e) (has_first n cs (j - 1) (omega arith) at)))
              (grown_back found j x (sub x m))) out)
              (λ is. less b (with_first found (j - 1) cs) (λ x m. ⊎_elim (λ w. w) (λ e. absurd (out (subst (In b) (e ∙ sym (has_pow r q is)) m))) (grown_back found j x (sub x m))) f)
              (or_has found (2 ^ r) q p);
        }

    -- the rounds are not over while the found rules fit
    pub some_left : (found n : ℕ) → Ahead on cs found n → Fits found → 1 ≤ n
    some_left found n a f = elim (cases_eq n 0) [ inl e ↦ absurd (a.clash (less (with_first found n cs) found (first_none found n cs e) f)) | inr ne ↦ omega arith ]

    -- halving between 1 and what is left finds the candidate at which the clash begins
    begins : {found n j : ℕ} {s t : S} {ls : List Line} → Ahead on cs found n → Fits found → Halves R found cs 1 n s ls j t
        → (1 ≤ j) × (j ≤ n) × Fits (with_first found (j - 1) cs) × (Fits (with_first found j cs) → ⊥)
    begins {found} {n} a f p = halves_law p (omega arith) (some_left found n a f) (less (with_first found 0 cs) found (first_none found 0 cs refl) f) a.clash

    -- and with it found the next round lies ahead
    pub halved : {found n j : ℕ} {s t : S} {ls : List Line} → Ahead on cs found n → Fits found → Halves R found cs 1 n s ls j t
        → Ahead on cs (with_rule found j cs) (j - 1)
    halved {found} {n} {j} a f p = let h = begins a f p in next found n j a h.0 h.1 h.2 h.3

    rounds_law : {found n c : ℕ} {s t : S} {ls : List Line} → Rounds R cs found n s ls c t → Ahead on cs found n
        → Core Fits on c × ((k : ℕ) × (size c ≡ size found + k) × (k ≤ n) × ((L : ℕ) → length cs ≤ 2 ^ L → length ls ≤ 1 + k + k * L))
    rounds_law {found} {n} (alone g) a = (
      record {
        among = a.among;
        clash = clash g;
        needed = λ r h. a.needed r h (found - 2 ^ r)
            (λ q k. has_left found (set_of (take n cs)) q (elim (cases_eq q r) [ inl e ↦ absurd (out_same found r h (subst (In (found - 2 ^ r)) e k)) | inr ne ↦ sym (out_other found r q h ne) ∙ k ]))
            (out_same found r h);
      },
      (0, omega arith, omega arith, λ L h. omega arith),
    )
    rounds_law {found} {n} (round {j = j} {ls = ls} {ms = ms} g p q) a =
        let f = fits g in
        let r = get_or cs (j - 1) 0 in
        let most : n ≤ length cs = a.most in
        let h = begins a f p in
        let lo : 1 ≤ j = h.0 in
        let hi : j ≤ n = h.1 in
        let i = rounds_law q (next found n j a lo hi h.2 h.3) in
        let fresh = size_add found r (small (j - 1) (omega arith)) (new found j lo (omega arith) h.2 h.3) in
        let k = i.1.0 in
        let ke = i.1.1 in
        let kn = i.1.2 in (
          i.0,
          (
            k + 1,
            omega arith,
            omega arith,
            λ L e.
                let b = i.1.3 L e in
                let d = halves_short p L (omega arith) in
                let m = length-append ls ms in
                let w = add-mul k 1 L in
                let o = one-mul L in omega arith,
          ),
        )

  -- ---- the whole search
  -- what lies ahead of the first round
  pub at_first : {on c : ℕ} → c < 2 ^ 64 → Subset c on → (Fits c → ⊥) → Ahead on (members c) 0 (size c)
  at_first {on} {c} small sub no-fill = record {
    most = omega arith;
    among = λ r k. absurd (has_zero r k);
    clash = λ f. no-fill (less c (with_first 0 (size c) (members c))
        (λ r k. has_right 0 (set_of (take (size c) (members c))) r (subst (λ (xs : List ℕ). In (set_of xs) r) (sym (take_all (size c) (members c) (omega arith))) (subset_members c small r k))) f);
    needed = λ r k. absurd (has_zero r k);
  }

  found_law : {on c found : ℕ} {s t u w : S} {o : O} {l : Line} {ls ms : List Line} → on < 2 ^ 64 → Gives R on Unmet s l o t → Shrinks R l t ls c u
      → Rounds R (members c) 0 (size c) u ms found w → Core Fits on found × Short (size on) (size found) (suc (length (ls ++ ms)))
  found_law {on} {c} {found} {l = l} {ls = ls} {ms = ms} h g p q =
      let e = g.lists in
      let a = shrinks_law p (rw e h) ((right g.run).among g.says) ((right g.run).clash g.says) in
      let sub : Subset c on = subst (Subset c) e a.0 in
      let small = subset_small c on sub h in
      let i = rounds_law on (members c) (λ i l. (member_has c i l).1) (λ r k. sub r (members_subset c r k)) q (at_first small sub a.1) in
      let n : length ls + size c ≤ size on = subst (λ (x : ℕ). length ls + size c ≤ size x) e a.2 in (
        i.0,
        λ L le.
            let sl = size_sub c on (λ v l. sub v) in
            short (length ls) (length ms) (length (ls ++ ms)) (size on) (size c) i.1.0 (size found) L (length-append ls ms) n (i.1.3 L (omega arith)) i.1.2 (omega (arith, i.1.1, size_zero)),
      )

  -- ---- each line is right
  shrinks_each : {c : ℕ} {s t : S} {l : Line} {ls : List Line} → Shrinks R l s ls c t → AllByRecursion (Right Fits) ls
  shrinks_each (all e) = tt
  shrinks_each (fewer ne g p) = (right g.run, shrinks_each p)

  halves_each : {found : ℕ} {cs : List ℕ} {lo hi j : ℕ} {s t : S} {ls : List Line} → Halves R found cs lo hi s ls j t → AllByRecursion (Right Fits) ls
  halves_each (met e) = tt
  halves_each (down lt g p) = (right g.run, halves_each p)
  halves_each (up lt g p) = (right g.run, halves_each p)

  rounds_each : {cs : List ℕ} {found n c : ℕ} {s t : S} {ls : List Line} → Rounds R cs found n s ls c t → AllByRecursion (Right Fits) ls
  rounds_each (alone g) = (right g.run, tt)
  rounds_each (round {ls = ls} {ms = ms} g h p) = (right g.run, each_append (Right Fits) ls ms (halves_each h) (rounds_each p))

  pub fit_law : {on : ℕ} {s t : S} {ls : List Line} {out : Outcome O} → on < 2 ^ 64 → Fit R on s ls out t → RightFit Fits on ls out
  fit_law h (fills g) = record { lines = (right g.run, tt); ends = (fits g, refl) }
  fit_law h (clashes {ls = ls} {ms = ms} g p q) = let k = found_law h g p q in record {
    lines = (right g.run, each_append (Right Fits) ls ms (shrinks_each p) (rounds_each q));
    ends = (clash g, k.0, k.1);
  }
