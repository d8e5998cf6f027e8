-- Lists that are told by the index.
use Rattle.std.proofs.Common.{◌≡◌, ℕ, ◌<◌, List, length, get_or, ◌∙◌, zero-add}
use Rattle.std.proofs.lemmas.List.FromFn.{length-map-range_with_len, get_or-map-range_with_len, fill_by_all}
use Rattle.finite.specs.Finite.{table}

module _ {A : Type 0} (n : ℕ) (f : ℕ → A) where
  pub length-table : length (table n f) ≡ n
  unfolding table
  length-table = length-map-range_with_len f 0 n

  pub get_or-table : (k : ℕ) (d : A) → k < n → get_or (table n f) k d ≡ f k
  unfolding table
  get_or-table k d h = get_or-map-range_with_len f 0 n k k d h (zero-add k)

  -- a list with the elements of a table is that table
  pub table_is : (xs : List A) (d : A) → length xs ≡ n → ((k : ℕ) → k < n → get_or xs k d ≡ f k) → xs ≡ table n f
  unfolding table
  table_is xs d l h = fill_by_all f xs n d l h

pub table_same : {A : Type 0} (n : ℕ) (f g : ℕ → A) (d : A) → ((k : ℕ) → k < n → f k ≡ g k) → table n f ≡ table n g
table_same n f g d h = table_is n g (table n f) d (length-table n f) (λ k i. get_or-table n f k d i ∙ h k i)
