use Rattle.std.proofs.Common.{◌≡◌, ℕ, ◌+◌, ◌<◌, ◌≤◌, length, ◌==◌, get_or, count_by}
use Rattle.layout.specs.Entries.{target}
use Rattle.soundness.proofs.medium.Medium.count_names.Given as goal

abbrev pub invariant-loop-entry : goal.invariant-loop-entry
invariant-loop-entry l =
    let entries = goal.iterator-loop-entry in
    record {
      can_next : entries.can_next l.entry-iterator;
      is_finite : entries.is_finite l.entry-iterator;
      few : length l.yielded + entries.remaining l.entry-iterator ≤ entries.remaining l.initial.entry-iterator;
      long : length l.named ≡ 32;
      counted : (i : ℕ) → i < 32 → get_or l.named i 0 ≡ count_by (λ e. target e == i) l.yielded;
    }
