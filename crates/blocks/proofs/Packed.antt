-- Maps and their marks: each tells the other.
use Rattle.std.proofs.Common.{◌≡◌, ℕ, zero, suc, ◌+◌, ◌*◌, ◌/◌, ◌%◌, ◌^◌, ◌<◌, ◌≤◌, Bool, true, false, eqb, List, length, get_or, sym, refl, ap, ◌∙◌, add-zero, arith}
use native.Mathlib.Nat.{zero-div}
use Rattle.std.proofs.lemmas.List.{get_or_past}
use Rattle.finite.specs.Finite.{digit, table}
use Rattle.blocks.specs.Bytes.{Block}
use Rattle.blocks.specs.Bits.{bit, octet, packed}
use Rattle.finite.proofs.Tables.{get_or-table, table_is, table_same}

digit-le : (b : Bool) → digit b ≤ 1
digit-le true = omega arith
digit-le false = omega arith

digit-eqb : (b : Bool) → eqb (digit b) 1 ≡ b
digit-eqb true = refl
digit-eqb false = refl

-- the eight digits of a byte
abbrev Sum : (a b c d e f g h : ℕ) → ℕ
Sum a b c d e f g h = a + 2 * (b + 2 * (c + 2 * (d + 2 * (e + 2 * (f + 2 * (g + 2 * h))))))

abbrev Digits : (o a b c d e f g h : ℕ) → Type 0
Digits o a b c d e f g h =
    (o / 1 % 2 ≡ a) × (o / 2 % 2 ≡ b) × (o / 4 % 2 ≡ c) × (o / 8 % 2 ≡ d) × (o / 16 % 2 ≡ e) × (o / 32 % 2 ≡ f) × (o / 64 % 2 ≡ g) × (o / 128 % 2 ≡ h)

sum_digits : (a b c d e f g h : ℕ) → a ≤ 1 → b ≤ 1 → c ≤ 1 → d ≤ 1 → e ≤ 1 → f ≤ 1 → g ≤ 1 → h ≤ 1
    → Digits (Sum a b c d e f g h) a b c d e f g h
sum_digits a b c d e f g h la lb lc ld le lf lg lh =
    (omega arith, omega arith, omega arith, omega arith, omega arith, omega arith, omega arith, omega arith)

digits_sum : (x : ℕ) → x < 256
    → Sum (x / 1 % 2) (x / 2 % 2) (x / 4 % 2) (x / 8 % 2) (x / 16 % 2) (x / 32 % 2) (x / 64 % 2) (x / 128 % 2) ≡ x
digits_sum x small =
    let e7 : x / 128 % 2 ≡ x / 128 = omega arith in
    let e6 : x / 64 % 2 + 2 * (x / 128) ≡ x / 64 = omega arith in
    let e5 : x / 32 % 2 + 2 * (x / 64) ≡ x / 32 = omega arith in
    let e4 : x / 16 % 2 + 2 * (x / 32) ≡ x / 16 = omega arith in
    let e3 : x / 8 % 2 + 2 * (x / 16) ≡ x / 8 = omega arith in
    let e2 : x / 4 % 2 + 2 * (x / 8) ≡ x / 4 = omega arith in
    let e1 : x / 2 % 2 + 2 * (x / 4) ≡ x / 2 = omega arith in
    let e0 : x / 1 % 2 + 2 * (x / 2) ≡ x = omega arith in
    rw (e7, e6, e5, e4, e3, e2, e1, e0) refl

-- what holds at 0 to 7
eight : (P : ℕ → Type 0) → P 0 → P 1 → P 2 → P 3 → P 4 → P 5 → P 6 → P 7 → (k : ℕ) → k < 8 → P k
eight P a b c d e f g h zero l = a
eight P a b c d e f g h (suc zero) l = b
eight P a b c d e f g h (suc (suc zero)) l = c
eight P a b c d e f g h (suc (suc (suc zero))) l = d
eight P a b c d e f g h (suc (suc (suc (suc zero)))) l = e
eight P a b c d e f g h (suc (suc (suc (suc (suc zero))))) l = f
eight P a b c d e f g h (suc (suc (suc (suc (suc (suc zero)))))) l = g
eight P a b c d e f g h (suc (suc (suc (suc (suc (suc (suc zero))))))) l = h
eight P a b c d e f g h (suc (suc (suc (suc (suc (suc (suc (suc k)))))))) l = absurd (omega arith)

octet-digit : (p : ℕ → Bool) (k j : ℕ) → j < 8 → octet p k / 2 ^ j % 2 ≡ digit (p (8 * k + j))
octet-digit p k =
    let n = 8 * k in
    let digits = sum_digits (digit (p n)) (digit (p (n + 1))) (digit (p (n + 2))) (digit (p (n + 3))) (digit (p (n + 4))) (digit (p (n + 5)))
    (digit (p (n + 6))) (digit (p (n + 7))) (digit-le _) (digit-le _) (digit-le _) (digit-le _) (digit-le _) (digit-le _) (digit-le _) (digit-le _) in
    eight (λ j. octet p k / 2 ^ j % 2 ≡ digit (p (n + j))) (digits.0 ∙ ap (λ (i : ℕ). digit (p i)) (sym (add-zero n)))
    digits.1 digits.2 digits.3 digits.4 digits.5 digits.6 digits.7

-- the map that marks what has p marks just that
pub bit-packed : (p : ℕ → Bool) (n : ℕ) → n < 512 → bit (packed p) n ≡ p n
unfolding packed
bit-packed p n h =
    let place : 8 * (n / 8) + n % 8 ≡ n = omega arith in
    ap (λ (x : ℕ). eqb (x / 2 ^ (n % 8) % 2) 1) (get_or-table 64 (octet p) (n / 8) 0 (omega arith))
    ∙ ap (λ (x : ℕ). eqb x 1) (octet-digit p (n / 8) (n % 8) (omega arith)) ∙ digit-eqb (p (8 * (n / 8) + n % 8)) ∙ ap p place

-- a block marks nothing from 512 on
pub bit_past : (block : Block) → length block ≡ 64 → (n : ℕ) → 512 ≤ n → bit block n ≡ false
bit_past block l n h =
    let past : length block ≤ n / 8 = omega arith in
    ap (λ (x : ℕ). eqb (x / 2 ^ (n % 8) % 2) 1) (get_or_past block (n / 8) 0 past) ∙ none (2 ^ (n % 8))
  where
    none : (x : ℕ) → eqb (0 / x % 2) 1 ≡ false
    none x = ap (λ (y : ℕ). eqb (y % 2) 1) (zero-div x)

-- of the marks only those below 512 count
pub octet_same : (p q : ℕ → Bool) (k : ℕ) → ((j : ℕ) → j < 8 → p (8 * k + j) ≡ q (8 * k + j)) → octet p k ≡ octet q k
octet_same p q k e =
    let z : 8 * k + 0 ≡ 8 * k = omega arith in
    let e0 : p (8 * k) ≡ q (8 * k) = ap p (sym z) ∙ e 0 (omega arith) ∙ ap q z in
    let e1 = e 1 (omega arith) in
    let e2 = e 2 (omega arith) in
    let e3 = e 3 (omega arith) in
    let e4 = e 4 (omega arith) in
    let e5 = e 5 (omega arith) in
    let e6 = e 6 (omega arith) in
    let e7 = e 7 (omega arith) in
    simp (e0, e1, e2, e3, e4, e5, e6, e7)

pub packed_same : (p q : ℕ → Bool) → ((n : ℕ) → n < 512 → p n ≡ q n) → packed p ≡ packed q
unfolding packed
packed_same p q e = table_same 64 (octet p) (octet q) 0 (λ k h. octet_same p q k (λ j l. e (8 * k + j) (omega arith)))

-- the map of a table of marks
pub packed-table : (marks : List Bool) (p : ℕ → Bool) → marks ≡ table 512 p → packed (λ n. get_or marks n false) ≡ packed p
packed-table marks p e = packed_same _ p (λ n h. ap (λ m. get_or m n false) e ∙ get_or-table 512 p n false h)

-- a block of bytes is the map of its own marks
module _ (block : Block) (small : (k : ℕ) → get_or block k 0 < 256) where
  bit-digit : (k j : ℕ) → j < 8 → digit (bit block (8 * k + j)) ≡ get_or block k 0 / 2 ^ j % 2
  bit-digit k j h =
      let byte : (8 * k + j) / 8 ≡ k = omega arith in
      let place : (8 * k + j) % 8 ≡ j = omega arith in
      ap (λ (b : ℕ). digit (eqb (get_or block b 0 / 2 ^ ((8 * k + j) % 8) % 2) 1)) byte
      ∙ ap (λ (b : ℕ). digit (eqb (get_or block k 0 / 2 ^ b % 2) 1)) place ∙ odd (get_or block k 0 / 2 ^ j)
    where
      odd : (x : ℕ) → digit (eqb (x % 2) 1) ≡ x % 2
      odd x = let small : x % 2 < 2 = omega arith in parity (x % 2) small
        where
          parity : (y : ℕ) → y < 2 → digit (eqb y 1) ≡ y
          parity zero l = refl
          parity (suc zero) l = refl
          parity (suc (suc y)) l = absurd (omega arith)

  pub packed-bit : length block ≡ 64 → packed (bit block) ≡ block
  unfolding packed
  packed-bit l = sym (table_is 64 (octet (bit block)) block 0 l (λ k h. sym (byte k)))
    where
      byte : (k : ℕ) → octet (bit block) k ≡ get_or block k 0
      byte k =
          let x = get_or block k 0 in
          let z : 8 * k ≡ 8 * k + 0 = omega arith in
          let d0 : digit (bit block (8 * k)) ≡ x / 1 % 2 = ap (λ (n : ℕ). digit (bit block n)) z ∙ bit-digit k 0 (omega arith) in
          let sum : octet (bit block) k ≡ Sum (x / 1 % 2) (x / 2 % 2) (x / 4 % 2) (x / 8 % 2) (x / 16 % 2) (x / 32 % 2) (x / 64 % 2) (x / 128 % 2) =
          λ i. Sum (d0 i) (bit-digit k 1 (omega arith) i) (bit-digit k 2 (omega arith) i) (bit-digit k 3 (omega arith) i)
          (bit-digit k 4 (omega arith) i) (bit-digit k 5 (omega arith) i) (bit-digit k 6 (omega arith) i) (bit-digit k 7 (omega arith) i) in
          sum ∙ digits_sum x (small k)
