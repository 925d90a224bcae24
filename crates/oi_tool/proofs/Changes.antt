-- Changes of the store, one after another.
use Rattle.std.proofs.Common.{◌≡◌, ◌∙◌, inl, inr, ℕ, ◌+◌, List, [], ◌∷◌, ◌++◌, Option, Some, Err, refl, sym, ap, subst, take, length, map}
use Rattle.std.proofs.Math.Seq.{take-append-add, take-append_seam, take-length}
use Rattle.oi_outside.specs.Records.{Records, with_path, without_path}
use Rattle.oi_outside.specs.Stores.{Puts, Removes, told_with, told_without}
use Rattle.oi_outside.specs.declared.store_error.StoreError.{StoreError}
use Rattle.oi_outside.specs.declared.store_error.StoreError.TheVariants.{Failed, Memory}
use Rattle.oi_settings.specs.Keys.{path_text}
use Rattle.oi_settings.specs.Texts.{Node, text_of}
use Rattle.oi_nodedb.specs.Databases.{told_removed, told_texts}
use Rattle.oi_tool.specs.Outcomes.{Change, Outcome, after, drops, drops_text, made, puts, puts_text}
use Rattle.oi_tool.specs.Runs.{IsPart}

after-append : (xs ys : List Change) (r : Records) → after (xs ++ ys) r ≡ after ys (after xs r)
after-append [] ys r = refl
after-append (x ∷ xs) ys r = after-append xs ys (made x r)

-- the texts of records in order, as changes
pub texts_put : (ns : List Node) (r : Records) → told_texts (Some r) ns ≡ Some (after (map puts_text ns) r)
texts_put [] r = refl
texts_put (n ∷ ns) r = texts_put ns (with_path r (path_text n.key) (text_of n.pairs))

pub texts_removed : (ns : List Node) (r : Records) → told_removed (Some r) ns ≡ Some (after (map drops_text ns) r)
texts_removed [] r = refl
texts_removed (n ∷ ns) r = texts_removed ns (without_path r (path_text n.key))

-- none of them, or all
pub none_made : (o : Outcome) (r : Records) (is : Option Records) → is ≡ Some r → IsPart o r is
none_made o r is same = record { count = 0; stored = same }

pub all_made : (o : Outcome) (r : Records) (is : Option Records) → is ≡ Some (after o.changes r) → IsPart o r is
all_made o r is same = record { count = length o.changes; stored = same ∙ ap (λ (cs : List Change). Some (after cs r)) (sym (take-length o.changes)) }

pub part_same : (o p : Outcome) (r : Records) (is : Option Records) → o ≡ p → IsPart p r is → IsPart o r is
part_same o p r is same part = subst (λ (q : Outcome). IsPart q r is) (sym same) part

-- those before one, with it or without it
pub stopped_before : (o : Outcome) (xs ys : List Change) (r : Records) (is : Option Records) → o.changes ≡ xs ++ ys → is ≡ Some (after xs r) → IsPart o r is
stopped_before o xs ys r is whole same = record {
  count = length xs;
  stored = same ∙ ap (λ (cs : List Change). Some (after cs r)) (sym (ap (take (length xs)) whole ∙ take-append_seam xs ys));
}

pub stopped_behind : (o : Outcome) (xs : List Change) (x : Change) (ys : List Change) (r : Records) (is : Option Records) → o.changes ≡ xs ++ x ∷ ys → is ≡ Some (made x (after xs r))
    → IsPart o r is
stopped_behind o xs x ys r is whole same = record {
  count = length xs + 1;
  stored =
      same ∙ ap (λ (s : Records). Some s) (sym (after-append xs (x ∷ []) r))
      ∙ ap (λ (cs : List Change). Some (after cs r)) (sym (ap (take (length xs + 1)) whole ∙ take-append-add xs (x ∷ ys) 1));
}

-- a text that the store did not take, or took although it failed
pub put_stopped : (e : StoreError) (o : Outcome) (xs : List Change) (path text : List ℕ) (ys : List Change) (r : Records) (was is : Option Records) → o.changes ≡ xs ++ puts path text ∷ ys
    → was ≡ Some (after xs r) → Puts (Err e) path text was is → IsPart o r is
put_stopped Failed o xs path text ys r was is whole so_far (inl same) = stopped_before o xs (puts path text ∷ ys) r is whole (same ∙ so_far)
put_stopped Failed o xs path text ys r was is whole so_far (inr put) =
    stopped_behind o xs (puts path text) ys r is whole (put ∙ ap (λ (s : Option Records). told_with s path text) so_far)
put_stopped Memory o xs path text ys r was is whole so_far same = stopped_before o xs (puts path text ∷ ys) r is whole (same ∙ so_far)

pub drop_stopped : (e : StoreError) (o : Outcome) (xs : List Change) (path : List ℕ) (ys : List Change) (r : Records) (was is : Option Records) → o.changes ≡ xs ++ drops path ∷ ys
    → was ≡ Some (after xs r) → Removes (Err e) path was is → IsPart o r is
drop_stopped Failed o xs path ys r was is whole so_far (inl same) = stopped_before o xs (drops path ∷ ys) r is whole (same ∙ so_far)
drop_stopped Failed o xs path ys r was is whole so_far (inr put) =
    stopped_behind o xs (drops path) ys r is whole (put ∙ ap (λ (s : Option Records). told_without s path) so_far)
drop_stopped Memory o xs path ys r was is whole so_far same = stopped_before o xs (drops path ∷ ys) r is whole (same ∙ so_far)
