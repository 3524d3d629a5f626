-- Numbers written among bytes.
use Rattle.std.proofs.Common.{◌≡◌, ℕ, ◌+◌, ◌≤◌, sym, ◌∙◌, ap, List, ◌++◌, take, length, append_assoc, length-append}
use Rattle.std.proofs.lemmas.List.{take_at, length-take-le}
use borrow.Rule.Slice.PartMut.{put_mid, post_of}

-- Bytes were written at a place, and those up to their end are known.
pub put_front : (at n k : ℕ) (xs bytes rest : List ℕ) → at ≤ length xs → length bytes ≡ n → take (at + n) (put_mid at k xs (bytes ++ rest)) ≡ take at xs ++ bytes
put_front at n k xs bytes rest h e =
    let after : List ℕ = rest ++ post_of at k xs in
    let parts : take at xs ++ ((bytes ++ rest) ++ post_of at k xs) ≡ (take at xs ++ bytes) ++ after =
    ap (λ (l : List ℕ). take at xs ++ l) (append_assoc bytes rest (post_of at k xs)) ∙ sym (append_assoc (take at xs) bytes after) in
    let long : length (take at xs ++ bytes) ≡ at + n = length-append (take at xs) bytes ∙ ap (λ (m : ℕ). m + length bytes) (length-take-le at xs h) ∙ ap (λ (m : ℕ). at + m) e in
    ap (take (at + n)) parts ∙ take_at (take at xs ++ bytes) after (at + n) long
