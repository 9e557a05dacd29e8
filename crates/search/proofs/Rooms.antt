-- How many cells are open, and the room that their frames want. Assumes nothing.
use Rattle.std.proofs.Common.{◌≡◌, ℕ, zero, suc, ◌+◌, ◌*◌, ◌^◌, ◌<◌, ◌≤◌, Bool, cond, ltb, List, [], ◌∷◌, length, get_or, set, ap, inl, inr, mul-le-mul_right, suc-mul, arith, length-set}
use Rattle.std.proofs.lemmas.Nat.{mul-le}
use Rattle.std.proofs.lemmas.List.{get_or-set_same}
use Rattle.std.proofs.lemmas.Bool.{cases_lt, lt-ltb, le-ltb}
use Rattle.bits.specs.Sets.{size}
use Rattle.bits.proofs.Size.{size_pow, size_sub}
use Rattle.runs.specs.Law.{Full, Within}
use Rattle.runs.proofs.Steps.{alone_within, alone_full}
use Rattle.runs.specs.Run.{Chosen}
use Rattle.search.specs.Room.{opens, Able}

abbrev flag : ℕ → ℕ
flag n = cond (ltb 1 n) 1 0

flag_open : (n : ℕ) → 1 < n → flag n ≡ 1
flag_open n h = ap (λ (b : Bool). cond b 1 0) (lt-ltb 1 n h)

flag_shut : (n : ℕ) → n ≤ 1 → flag n ≡ 0
flag_shut n h = ap (λ (b : Bool). cond b 1 0) (le-ltb 1 n h)

flag_le : (a b : ℕ) → a ≤ b → flag a ≤ flag b
flag_le a b h = elim (cases_lt 1 a) [
  | inl l ↦ let x : flag a ≡ 1 = flag_open a l in let y : flag b ≡ 1 = flag_open b (omega arith) in omega arith
  | inr l ↦ let x : flag a ≡ 0 = flag_shut a l in omega arith
]

flag_one : (n : ℕ) → flag n ≤ 1
flag_one n = elim (cases_lt 1 n) [ inl l ↦ omega (arith, flag_open n l) | inr l ↦ omega (arith, flag_shut n l) ]

opens_sub : (t s : List ℕ) → length t ≡ length s → Within t s → opens t ≤ opens s
unfolding opens
opens_sub [] [] e w = omega arith
opens_sub [] (b ∷ s) e w = absurd (omega arith)
opens_sub (a ∷ t) [] e w = absurd (omega arith)
opens_sub (a ∷ t) (b ∷ s) e w =
    let x : flag (size a) ≤ flag (size b) = flag_le (size a) (size b) (size_sub a b (λ v l h. (w 0 v (l, h)).1)) in
    let y : opens t ≤ opens s = opens_sub t s (omega arith) (λ c v h. w (suc c) v h) in
    omega arith

opens_less : (t s : List ℕ) (c : ℕ) → length t ≡ length s → Within t s → c < length s → size (get_or t c 0) ≤ 1 → 1 < size (get_or s c 0) → opens t < opens s
unfolding opens
opens_less [] [] c e w l one two = absurd (omega arith)
opens_less [] (b ∷ s) c e w l one two = absurd (omega arith)
opens_less (a ∷ t) [] c e w l one two = absurd (omega arith)
opens_less (a ∷ t) (b ∷ s) zero e w l one two =
    let x : flag (size a) ≡ 0 = flag_shut (size a) one in
    let z : flag (size b) ≡ 1 = flag_open (size b) two in
    let y : opens t ≤ opens s = opens_sub t s (omega arith) (λ c v h. w (suc c) v h) in
    omega arith
opens_less (a ∷ t) (b ∷ s) (suc c) e w l one two =
    let x : flag (size a) ≤ flag (size b) = flag_le (size a) (size b) (size_sub a b (λ v l h. (w 0 v (l, h)).1)) in
    let y : opens t < opens s = opens_less t s c (omega arith) (λ c v h. w (suc c) v h) (omega arith) one two in
    omega arith

opens_le : (s : List ℕ) → opens s ≤ length s
unfolding opens
opens_le [] = omega arith
opens_le (a ∷ s) = omega (arith, flag_one (size a), opens_le s)

-- at most 64 cells, each open, and a frame for each
pub first_room : (s : List ℕ) (work : ℕ) → length s ≤ 64 → 4096 ≤ work → opens s * length s ≤ work
first_room s work few h = omega (arith, mul-le (opens s) (length s) 64 64 (omega (arith, opens_le s)) few)

room_frame : (p q n w : ℕ) → p < q → q * n ≤ w → n ≤ w
room_frame p q n w l h = let a : suc p * n ≤ q * n = mul-le-mul_right n l in omega (arith, suc-mul p n)

room_rest : (p q n w x : ℕ) → p < q → q * n ≤ w → x + n ≡ w → p * n ≤ x
room_rest p q n w x l h e = let a : suc p * n ≤ q * n = mul-le-mul_right n l in omega (arith, suc-mul p n)

room_less : (p q n w : ℕ) → p ≤ q → q * n ≤ w → p * n ≤ w
room_less p q n w l h = let a : p * n ≤ q * n = mul-le-mul_right n l in omega arith

-- ---- what a search wants, kept on its way
pub able_sub : {s : List ℕ} {work : ℕ} (t : List ℕ) (work' : ℕ) → Able s work → length t ≡ length s → Full t → Within t s
    → work' ≡ work → Able t work'
able_sub {s} {work} t work' a e full w ek = record {
  few = omega (arith, a.few);
  full = full;
  room = rw (ek, e) (room_less (opens t) (opens s) (length s) work (opens_sub t s e w) a.room);
}

-- a try closes its cell
opens_alone : (sets : List ℕ) (c v : ℕ) → Chosen sets c v → opens (set sets c (2 ^ v)) < opens sets
opens_alone sets c v k =
    let one : size (get_or (set sets c (2 ^ v)) c 0) ≤ 1 = omega (arith, ap size (get_or-set_same sets c (2 ^ v) 0 k.within), size_pow v) in
    opens_less (set sets c (2 ^ v)) sets c (length-set sets c (2 ^ v)) (alone_within sets c v k.within k.there) k.within one k.opened

pub able_alone : {sets : List ℕ} {work c v : ℕ} (work' : ℕ) → Able sets work → Chosen sets c v
    → work' + length sets ≡ work → Able (set sets c (2 ^ v)) work'
able_alone {sets} {work} {c} {v} work' a k ek =
    let e : length (set sets c (2 ^ v)) ≡ length sets = length-set sets c (2 ^ v) in
    record {
      few = omega (arith, a.few);
      full = alone_full sets c v k.within k.there.0 a.full;
      room = rw e (room_rest (opens (set sets c (2 ^ v))) (opens sets) (length sets) work work' (opens_alone sets c v k) a.room ek);
    }

pub frame_room : {sets : List ℕ} {work c v : ℕ} → Able sets work → Chosen sets c v → length sets ≤ work
frame_room {sets} {work} {c} {v} a k = room_frame (opens (set sets c (2 ^ v))) (opens sets) (length sets) work (opens_alone sets c v k) a.room
