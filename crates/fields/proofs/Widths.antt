-- How long texts and lines of them are at most.
use Rattle.std.proofs.Common.{◌≡◌, ℕ, suc, ◌+◌, ◌^◌, ◌<◌, ◌≤◌, List, [], ◌∷◌, length, ℤ, pos, negsuc, nat_abs, decimal, arith}
use lib.Signed.{mag}
use Rattle.fields.specs.Rows.{line_of, texts_row}
use Rattle.std.proofs.lemmas.Fmt.{length-decimal-le, length_signed_le}
use Rattle.std.proofs.lemmas.List.{length-append, length_push}
use Rattle.std.specs.Fmt.{signed_decimal}

-- a line text after text
length_row : (c d : List ℕ) (cs : List (List ℕ)) → length (texts_row (c ∷ d ∷ cs)) ≡ length c + 1 + length (texts_row (d ∷ cs))
length_row c d cs = omega (arith, length-append c (44 ∷ texts_row (d ∷ cs)))

-- a line has its line feed besides
pub length_line : (texts : List (List ℕ)) → length (line_of texts) ≡ length (texts_row texts) + 1
length_line texts = length_push (texts_row texts) 10

-- each text has at most so many bytes
abbrev pub Within : List (List ℕ) → List ℕ → Type 0
Within [] [] = Unit {0}
Within [] (most ∷ mosts) = ⊥
Within (text ∷ texts) [] = ⊥
Within (text ∷ texts) (most ∷ mosts) = (length text ≤ most) × Within texts mosts

-- the bytes of such texts, each with the separator after it
abbrev pub room : List ℕ → ℕ
room [] = 0
room (most ∷ mosts) = most + 1 + room mosts

row_within : (text : List ℕ) (texts : List (List ℕ)) (most : ℕ) (mosts : List ℕ) → Within (text ∷ texts) (most ∷ mosts) → length (texts_row (text ∷ texts)) + 1 ≤ room (most ∷ mosts)
row_within text [] most [] short = omega (arith, short.0)
row_within text [] most (other ∷ mosts) short = absurd short.1
row_within text (next ∷ texts) most [] short = absurd short.1
row_within text (next ∷ texts) most (other ∷ mosts) short =
    omega (arith, short.0, length_row text next texts, row_within next texts other mosts short.1)

pub line_within : (text : List ℕ) (texts : List (List ℕ)) (most : ℕ) (mosts : List ℕ) → Within (text ∷ texts) (most ∷ mosts) → length (line_of (text ∷ texts)) ≤ room (most ∷ mosts)
line_within text texts most mosts short =
    omega (arith, length_line (text ∷ texts), row_within text texts most mosts short)

-- numbers of 8, 32 and 64 bits
pub digits_8 : (n : ℕ) → n < 2 ^ 8 → length (decimal n) ≤ 3
digits_8 n small = length-decimal-le 3 n (omega arith) (omega arith) (omega arith)

pub digits_32 : (n : ℕ) → n < 2 ^ 32 → length (decimal n) ≤ 10
digits_32 n small = length-decimal-le 10 n (omega arith) (omega arith) (omega arith)

pub digits_64 : (n : ℕ) → n < 2 ^ 64 → length (decimal n) ≤ 20
digits_64 n small = length-decimal-le 20 n (omega arith) (omega arith) small

pub signed_64 : (z : ℤ) → mag z < 2 ^ 63 → length (signed_decimal z) ≤ 20
signed_64 z small = length_signed_le 19 z (omega arith) small

-- numbers of up to nine digits
pub digits_9 : (n : ℕ) → n ≤ 999999999 → length (decimal n) ≤ 9
digits_9 n short = length-decimal-le 9 n (omega arith) (omega arith) (omega arith)

pub signed_9 : (z : ℤ) → nat_abs z ≤ 999999999 → length (signed_decimal z) ≤ 10
signed_9 (pos n) short = let digits = digits_9 n short in omega arith
signed_9 (negsuc n) short = let digits = digits_9 (suc n) short in omega arith
