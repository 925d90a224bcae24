-- The answers to pairs, one pair more.
use Rattle.std.proofs.Common.{◌≡◌, ◌∙◌, ◌+◌, ◌<◌, ℕ, List, [], ◌∷◌, ◌++◌, length, drop, get_or, ap, sym, append_assoc}
use Rattle.std.proofs.lemmas.List.{append-nil, drop_more}
use Rattle.std.proofs.lemmas.List.Concat.{flat_map-append}
use Rattle.oi_base.specs.declared.login.Params.{Params}
use Rattle.oi_text.specs.declared.pairs.Pair.{Pair}
use Rattle.oi_text.specs.Pairs.{pair_text, text_of}
use Rattle.oi_target_login.specs.Answers.{answers, answers_to}

pub text_of-append : (ps qs : List Pair) → text_of (ps ++ qs) ≡ text_of ps ++ text_of qs
text_of-append ps qs = flat_map-append pair_text ps qs

pub one : (o w a : List ℕ) → w ≡ o ++ a → w ≡ o ++ (a ++ [])
one o w a p = p ∙ ap (λ (t : List ℕ). o ++ t) (sym (append-nil a))

pub two : (o w x a b : List ℕ) → w ≡ o ++ a → x ≡ w ++ b → x ≡ o ++ (a ++ (b ++ []))
two o w x a b p q = q ∙ ap (λ (t : List ℕ). t ++ b) p ∙ append_assoc o a b ∙ ap (λ (t : List ℕ). o ++ (a ++ t)) (sym (append-nil b))

pub three : (o w x y a b c : List ℕ) → w ≡ o ++ a → x ≡ w ++ b → y ≡ x ++ c → y ≡ o ++ (a ++ (b ++ (c ++ [])))
three o w x y a b c p q r = two w x y b c q r ∙ ap (λ (t : List ℕ). t ++ (b ++ (c ++ []))) p ∙ append_assoc o a (b ++ (c ++ []))

pub on_pair : (params : Params) (all out more : List ℕ) (ps : List Pair) (i : ℕ) (p : Pair) → i < length ps → p ≡ get_or ps i p
    → more ≡ out ++ text_of (answers_to params p)
    → out ++ text_of (answers params (drop i ps)) ≡ all → more ++ text_of (answers params (drop (i + 1) ps)) ≡ all
on_pair params all out more ps i p within is added was =
    let rest = drop (i + 1) ps in
    let front : drop i ps ≡ p ∷ drop (i + 1) ps = drop_more ps i p within ∙ ap (λ (q : Pair). q ∷ drop (i + 1) ps) (sym is) in
    ap (λ (t : List ℕ). t ++ text_of (answers params rest)) added ∙ append_assoc out (text_of (answers_to params p)) (text_of (answers params rest))
    ∙ ap (λ (t : List ℕ). out ++ t) (sym (text_of-append (answers_to params p) (answers params rest)) ∙ sym (ap (λ (qs : List Pair). text_of (answers params qs)) front)) ∙ was
