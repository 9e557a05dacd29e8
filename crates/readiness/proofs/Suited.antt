-- A book suits some cells if its own rules name no others, since a rule that is missing names none. Assumes nothing.
use Rattle.std.proofs.Common.{ℕ, ◌<◌, ◌≤◌, length, ap, inl, inr, arith}
use Rattle.std.proofs.lemmas.Bool.{cases_lt}
use Rattle.network.specs.Book.{BookMeaning, Lawful}
use Rattle.runs.specs.Settle.{cell_at}
use Rattle.runs.specs.Law.{Suits}

pub suits_from : {m : BookMeaning} {n : ℕ} → Lawful m → m.count ≤ 64 → ((r i : ℕ) → r < m.count → i < length (m.rule r).cells → cell_at m r i < n) → Suits m n
suits_from {m} {n} law few named = record {
  few = few;
  cells = λ r i h. elim (cases_lt r m.count) [
    | inl lt ↦ named r i lt h
    | inr ge ↦ absurd (omega (arith, ap length (law.missing r ge)))
  ];
}
