-- Texts to which one piece after another is appended.
use Rattle.std.proofs.Common.{◌≡◌, ◌∙◌, ℕ, List, [], ◌++◌, ap, sym, append_assoc}
use Rattle.std.proofs.lemmas.List.{append-nil}
use Rattle.std.proofs.lemmas.List.Concat.{flat_map-append}
use Rattle.oi_text.specs.declared.pairs.Pair.{Pair}
use Rattle.oi_text.specs.Pairs.{pair_text, text_of}

pub one : (o w a : List ℕ) → w ≡ o ++ a → w ≡ o ++ (a ++ [])
one o w a p = p ∙ ap (λ (t : List ℕ). o ++ t) (sym (append-nil a))

pub two : (o w x a b : List ℕ) → w ≡ o ++ a → x ≡ w ++ b → x ≡ o ++ (a ++ (b ++ []))
two o w x a b p q = q ∙ ap (λ (t : List ℕ). t ++ b) p ∙ append_assoc o a b ∙ ap (λ (t : List ℕ). o ++ (a ++ t)) (sym (append-nil b))

pub three : (o w x y a b c : List ℕ) → w ≡ o ++ a → x ≡ w ++ b → y ≡ x ++ c → y ≡ o ++ (a ++ (b ++ (c ++ [])))
three o w x y a b c p q r = two w x y b c q r ∙ ap (λ (t : List ℕ). t ++ (b ++ (c ++ []))) p ∙ append_assoc o a (b ++ (c ++ []))

pub four : (o w x y z a b c d : List ℕ) → w ≡ o ++ a → x ≡ w ++ b → y ≡ x ++ c → z ≡ y ++ d → z ≡ o ++ (a ++ (b ++ (c ++ (d ++ []))))
four o w x y z a b c d p q r s = three w x y z b c d q r s ∙ ap (λ (t : List ℕ). t ++ (b ++ (c ++ (d ++ [])))) p ∙ append_assoc o a (b ++ (c ++ (d ++ [])))

pub text_of-append : (ps qs : List Pair) → text_of (ps ++ qs) ≡ text_of ps ++ text_of qs
text_of-append ps qs = flat_map-append pair_text ps qs

pub joined_two : (n w z : List ℕ) (ps qs : List Pair) → n ≡ [] → w ≡ n ++ text_of ps → z ≡ w ++ text_of qs → z ≡ text_of (ps ++ qs)
joined_two n w z ps qs none p q = q ∙ ap (λ (t : List ℕ). t ++ text_of qs) (p ∙ ap (λ (t : List ℕ). t ++ text_of ps) none) ∙ sym (text_of-append ps qs)

pub joined_three : (o w x y : List ℕ) (ps qs rs : List Pair) → w ≡ o ++ text_of ps → x ≡ w ++ text_of qs → y ≡ x ++ text_of rs → y ≡ o ++ text_of (ps ++ (qs ++ rs))
joined_three o w x y ps qs rs p q r =
    r ∙ ap (λ (t : List ℕ). t ++ text_of rs) (q ∙ ap (λ (t : List ℕ). t ++ text_of qs) p)
    ∙ append_assoc (o ++ text_of ps) (text_of qs) (text_of rs) ∙ append_assoc o (text_of ps) (text_of qs ++ text_of rs)
    ∙ ap (λ (t : List ℕ). o ++ t) (ap (λ (t : List ℕ). text_of ps ++ t) (sym (text_of-append qs rs)) ∙ sym (text_of-append ps (qs ++ rs)))
