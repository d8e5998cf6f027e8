-- Inodes and entries read back from their bytes.
use Rattle.std.proofs.Common.{◌≡◌, ℕ, zero, suc, ◌+◌, ◌*◌, ◌<◌, List, [], ◌∷◌, length, get_or, sym, refl, ap, ◌∙◌, arith}
use Rattle.std.proofs.lemmas.List.{take_all}
use Rattle.finite.specs.Finite.{table}
use Rattle.blocks.specs.Bytes.{low, high, word}
use Rattle.layout.specs.Inodes.{is_file, links, pointer, inode_of, IsFile}
use Rattle.layout.specs.Entries.{target, title, entry_of, IsEntry}
use Rattle.finite.proofs.Tables.{table_is}

-- a 16-bit number is its two bytes
pub whole : (n : ℕ) → low n + 256 * high n ≡ n
whole n = omega arith

-- what holds at 0 to 5
six : (P : ℕ → Type 0) → P 0 → P 1 → P 2 → P 3 → P 4 → P 5 → (k : ℕ) → k < 6 → P k
six P a b c d e f zero h = a
six P a b c d e f (suc zero) h = b
six P a b c d e f (suc (suc zero)) h = c
six P a b c d e f (suc (suc (suc zero))) h = d
six P a b c d e f (suc (suc (suc (suc zero)))) h = e
six P a b c d e f (suc (suc (suc (suc (suc zero))))) h = f
six P a b c d e f (suc (suc (suc (suc (suc (suc k)))))) h = absurd (omega arith)

pub links_back : (n : ℕ) (p : List ℕ) → links (inode_of n p) ≡ n
links_back n p = whole n

pub pointer_back : (n : ℕ) (p : List ℕ) (k : ℕ) → k < 6 → pointer (inode_of n p) k ≡ get_or p k 0
pointer_back n p = six (λ k. pointer (inode_of n p) k ≡ get_or p k 0) (whole _) (whole _) (whole _) (whole _) (whole _) (whole _)

pub is_file_of : (n : ℕ) (p bytes : List ℕ) → bytes ≡ inode_of n p → IsFile n p bytes
is_file_of n p bytes e = record {
  value = e;
  kind = ap is_file e;
  links = ap links e ∙ links_back n p;
  pointers = λ k h. ap (λ r. pointer r k) e ∙ pointer_back n p k h;
}

-- 16 bytes, spelled out
pub spelled : (bytes : List ℕ) → length bytes ≡ 16
    → bytes ≡ get_or bytes 0 0 ∷ get_or bytes 1 0 ∷ get_or bytes 2 0 ∷ get_or bytes 3 0 ∷ get_or bytes 4 0 ∷ get_or bytes 5 0 ∷ get_or bytes 6 0 ∷ get_or bytes 7 0
    ∷ get_or bytes 8 0 ∷ get_or bytes 9 0 ∷ get_or bytes 10 0 ∷ get_or bytes 11 0 ∷ get_or bytes 12 0 ∷ get_or bytes 13 0 ∷ get_or bytes 14 0 ∷ get_or bytes 15 0 ∷ []
unfolding table
spelled bytes l = table_is 16 (λ k. get_or bytes k 0) bytes 0 l (λ k h. refl)

-- the two bytes of a number are those that it was read from
module _ (bytes : List ℕ) (fits : (i : ℕ) → get_or bytes i 0 < 256) where
  low_word : (at : ℕ) → low (word bytes at) ≡ get_or bytes at 0
  low_word at = let f = fits at in omega arith

  high_word : (at : ℕ) → high (word bytes at) ≡ get_or bytes (at + 1) 0
  high_word at = let f = fits at in omega arith

  -- an inode that is read from a file's bytes
  pub file_from : (n : ℕ) (p : List ℕ) → length bytes ≡ 16 → get_or bytes 0 0 ≡ 1 → get_or bytes 1 0 ≡ 0 → n ≡ word bytes 2
      → ((k : ℕ) → k < 6 → get_or p k 0 ≡ word bytes (4 + 2 * k)) → IsFile n p bytes
  file_from n p l kind zero_byte e read = is_file_of n p bytes (spelled bytes l ∙ (λ i. kind i ∷ zero_byte i ∷ sym (ap low e ∙ low_word 2) i ∷ sym (ap high e ∙ high_word 2) i
      ∷ at_low 0 (omega arith) i ∷ at_high 0 (omega arith) i ∷ at_low 1 (omega arith) i ∷ at_high 1 (omega arith) i
      ∷ at_low 2 (omega arith) i ∷ at_high 2 (omega arith) i ∷ at_low 3 (omega arith) i ∷ at_high 3 (omega arith) i
      ∷ at_low 4 (omega arith) i ∷ at_high 4 (omega arith) i ∷ at_low 5 (omega arith) i ∷ at_high 5 (omega arith) i ∷ []))
    where
      at_low : (k : ℕ) → k < 6 → get_or bytes (4 + 2 * k) 0 ≡ low (get_or p k 0)
      at_low k h = sym (ap low (read k h) ∙ low_word (4 + 2 * k))

      at_high : (k : ℕ) → k < 6 → get_or bytes (4 + 2 * k + 1) 0 ≡ high (get_or p k 0)
      at_high k h = sym (ap high (read k h) ∙ high_word (4 + 2 * k))

pub target_back : (i : ℕ) (name : List ℕ) → target (entry_of i name) ≡ i
target_back i name = whole i

pub title_back : (i : ℕ) (name : List ℕ) → length name ≡ 14 → title (entry_of i name) ≡ name
title_back i name l = take_all 14 name (omega arith)

-- a slot's two bytes of a number, and those of its name
pub entry_spelled : (bytes : List ℕ) → length bytes ≡ 16 → bytes ≡ get_or bytes 0 0 ∷ get_or bytes 1 0 ∷ title bytes
entry_spelled [] l = absurd (omega arith)
entry_spelled (a ∷ []) l = absurd (omega arith)
entry_spelled (a ∷ b ∷ name) l = ap (λ r. a ∷ b ∷ r) (sym (take_all 14 name (omega arith)))

-- an entry that is read from 16 bytes
pub entry_from : (bytes : List ℕ) → length bytes ≡ 16 → (i : ℕ) (name : List ℕ) → i ≡ target bytes → low i ≡ get_or bytes 0 0 → high i ≡ get_or bytes 1 0
    → name ≡ title bytes → IsEntry i name bytes
entry_from bytes l i name e a b t = record {
  value = entry_spelled bytes l ∙ (λ j. sym a j ∷ sym b j ∷ sym t j);
  target = sym e;
  title = sym t;
}
