-- A run that was ended, from what its words came to.
use Rattle.std.proofs.Common.{◌≡◌, ◌∙◌, ◌⊎◌, inl, inr, ℕ, true, true≢false, List, [], ◌++◌, Option, Some, None, Ok, Err, refl, sym, ap, subst, length, take, arith}
use Rattle.std.proofs.lemmas.List.{append-nil}
use Rattle.std.proofs.Math.Seq.{take-length, take-nil}
use Rattle.oi_base.specs.Counts.{Rose}
use Rattle.oi_outside.specs.Records.{Records}
use Rattle.oi_outside.specs.Streams.{IsFront, behind}
use Rattle.oi_tool.specs.declared.stop.Stop.{Stop}
use Rattle.oi_tool.specs.declared.stop.Stop.TheVariants.{Words, Unreadable, Nothing, InUse, Store, Sink, Memory}
use Rattle.oi_tool.specs.Answers.{AreJudged, Comes, IsAnswer, IsDone, IsEnding, IsFlushed, IsQuiet, IsSinkCount, IsSteady, IsStopped, IsStoreCount, stopping}
use Rattle.oi_tool.specs.Runs.{HasCause, IsBegun, IsLeft, IsRun, IsTool, IsToldFault, IsWhole, fault_statuses, is_any, is_mild}
use Rattle.oi_tool.specs.Stops.{status_of, stop_text}
use Rattle.oi_tool.proofs.Changes.{all_made}

-- ---- counts and fronts

rose_on : (a b c : ℕ) → Rose a b → IsSteady b c → Rose a c
rose_on a b c rose (inl same) = subst (λ (n : ℕ). Rose a n) (sym same) rose
rose_on a b c rose (inr more) = omega (arith, rose, more)

steady_from : (a b c : ℕ) → b ≡ a → (Rose a c → ⊥) → Rose b c → ⊥
steady_from a b c same still rose = still (subst (λ (n : ℕ). Rose n c) same rose)

nothing_more : (held : Option (List ℕ)) (n : ℕ) → behind held (take n []) ≡ held
nothing_more None n = refl
nothing_more (Some xs) n = ap (λ (ys : List ℕ). Some ys) (ap (λ (zs : List ℕ). xs ++ zs) (take-nil n) ∙ append-nil xs)

pub whole_front : (text : List ℕ) (held0 held : Option (List ℕ)) → held ≡ behind held0 text → IsFront text held0 held
whole_front text held0 held same = record { count = length text; is = same ∙ ap (λ (t : List ℕ). behind held0 t) (sym (take-length text)) }

moved_front : (text : List ℕ) (held0 mid held : Option (List ℕ)) → mid ≡ held0 → IsFront text mid held → IsFront text held0 held
moved_front text held0 mid held same front = subst (λ (h : Option (List ℕ)). IsFront text h held) same front

moved_whole : (text : List ℕ) (held0 mid held : Option (List ℕ)) → mid ≡ held0 → held ≡ behind mid text → held ≡ behind held0 text
moved_whole text held0 mid held same whole = whole ∙ ap (λ (h : Option (List ℕ)). behind h text) same

-- ---- all is done

module _ (words : List (List ℕ)) (records : Records) (status : ℕ) (is : Option Records) (held0 mid held : Option (List ℕ)) (sink0 sink1 sink2 : ℕ) where
  pub done_exact : Comes words (Ok tt) records is held0 mid → held ≡ mid → sink1 ≡ sink0 → (Rose sink0 sink2 → ⊥)
      → IsFlushed status sink1 sink2 → IsWhole words records status is held0 held
  done_exact comes same still quiet (inl ends) = record {
    outcome = comes.0;
    run = comes.1;
    status_is = ends.0 ∙ sym comes.2.0;
    stored = comes.2.1;
    text = same ∙ comes.2.2;
  }
  done_exact comes same still quiet (inr ends) = absurd (quiet (subst (λ (n : ℕ). Rose n sink2) still ends.1))

  done_status : (o : ℕ) → o ≡ 0 → IsFlushed status sink1 sink2 → (status ≡ o) ⊎ ((is_mild o ≡ true) × (status ≡ 31))
  done_status o zero_it (inl ends) = inl (ends.0 ∙ sym zero_it)
  done_status o zero_it (inr ends) = inr (ap is_mild zero_it, ends.0)

  pub done_left : Comes words (Ok tt) records is held0 mid → held ≡ mid → IsFlushed status sink1 sink2 → IsLeft words records status is held0 held
  done_left comes same ends = record {
    begun = inr (comes.0, comes.1, all_made comes.0 records is comes.2.1);
    carried_out = λ _ _. record {
      outcome = comes.0;
      run = comes.1;
      status_is = done_status comes.0.status comes.2.0 ends;
      stored = comes.2.1;
      front = whole_front comes.0.text held0 held (same ∙ comes.2.2);
    };
  }

module _ (words : List (List ℕ)) (status : ℕ) (held0 held : Option (List ℕ)) (sink0 sink1 sink2 : ℕ) where
  pub done_cause : (store0 store : ℕ) → AreJudged words (Ok tt) → store ≡ store0 → sink1 ≡ sink0 → IsFlushed status sink1 sink2
      → HasCause words status store0 store sink0 sink2
  done_cause store0 store judged well still (inl ends) = subst (λ (s : ℕ). HasCause words s store0 store sink0 sink2) (sym ends.0) (record {
    known = refl;
    words_bad = λ e. absurd (omega (arith, e));
    bad_words = λ refused _. absurd (judged refused);
    store_failed = λ e. absurd (omega (arith, e));
    store_well = λ _ _. well;
    sink_failed = λ e. absurd (omega (arith, e));
    sink_well = λ _. ends.1 ∙ still;
  })
  done_cause store0 store judged well still (inr ends) = subst (λ (s : ℕ). HasCause words s store0 store sink0 sink2) (sym ends.0) (record {
    known = refl;
    words_bad = λ e. absurd (omega (arith, e));
    bad_words = λ refused _. absurd (judged refused);
    store_failed = λ e. absurd (omega (arith, e));
    store_well = λ _ _. well;
    sink_failed = λ _. subst (λ (n : ℕ). Rose n sink2) still ends.1;
    sink_well = λ e. absurd (true≢false (sym e));
  })

  pub done_told : IsFlushed status sink1 sink2 → is_any fault_statuses status ≡ true → IsToldFault status held0 held sink0 sink2
  done_told (inl ends) any = absurd (true≢false (sym any ∙ ap (is_any fault_statuses) ends.0))
  done_told (inr ends) any = absurd (true≢false (sym any ∙ ap (is_any fault_statuses) ends.0))

-- ---- it stopped

-- where the status is not fatal, only the last text can have failed
mild_rose : (stop : Stop) (a b c : ℕ) → is_mild (status_of stop) ≡ true → IsSinkCount (Err stop) a b → Rose b c → Rose a c
mild_rose Nothing a b c mild same rose = subst (λ (n : ℕ). Rose n c) same rose
mild_rose InUse a b c mild same rose = subst (λ (n : ℕ). Rose n c) same rose
mild_rose Words a b c mild same rose = absurd (true≢false (sym mild))
mild_rose (Unreadable p l) a b c mild same rose = absurd (true≢false (sym mild))
mild_rose Store a b c mild same rose = absurd (true≢false (sym mild))
mild_rose Sink a b c mild same rose = absurd (true≢false (sym mild))
mild_rose Memory a b c mild same rose = absurd (true≢false (sym mild))

module _ (words : List (List ℕ)) (records : Records) (is : Option Records) (held0 mid held : Option (List ℕ)) (store0 store sink0 sink1 sink2 : ℕ) where
  -- an outcome without changes, of which all is told
  plain_exact : (stop : Stop) → IsRun words records (stopping stop) × (is ≡ Some records) × (mid ≡ held0) → held ≡ behind mid (stop_text stop) → IsWhole words records (status_of stop) is held0 held
  plain_exact stop comes told = record {
    outcome = stopping stop;
    run = comes.0;
    status_is = refl;
    stored = comes.1;
    text = moved_whole (stop_text stop) held0 mid held comes.2 told;
  }

  -- the sink failed with the last text of an outcome that is not fatal
  failed_left : (stop : Stop) → is_mild (status_of stop) ≡ true → IsRun words records (stopping stop) × (is ≡ Some records) × (mid ≡ held0) → IsFront (stop_text stop) mid held → IsLeft words records 31 is held0 held
  failed_left stop mild comes front = record {
    begun = inl comes.1;
    carried_out = λ _ _. record {
      outcome = stopping stop;
      run = comes.0;
      status_is = inr (mild, refl);
      stored = comes.1;
      front = moved_front (stop_text stop) held0 mid held comes.2 front;
    };
  }

  plain_left : (stop : Stop) → IsRun words records (stopping stop) × (is ≡ Some records) × (mid ≡ held0) → IsFront (stop_text stop) mid held → IsLeft words records (status_of stop) is held0 held
  plain_left stop comes front = record {
    begun = inl comes.1;
    carried_out = λ _ _. record {
      outcome = stopping stop;
      run = comes.0;
      status_is = inl refl;
      stored = comes.1;
      front = moved_front (stop_text stop) held0 mid held comes.2 front;
    };
  }

  exact_at : (stop : Stop) → Comes words (Err stop) records is held0 mid → IsStoreCount (Err stop) store0 store → IsSinkCount (Err stop) sink0 sink1 → IsSteady sink1 sink2
      → (Rose store0 store → ⊥) → (Rose sink0 sink2 → ⊥) → (status_of stop ≡ 3 → ⊥) → ((Rose sink1 sink2 → ⊥) → held ≡ behind mid (stop_text stop)) → IsWhole words records (status_of stop) is held0 held
  exact_at Words comes stores sinks steady still quiet some told = plain_exact Words comes (told (steady_from sink0 sink1 sink2 sinks quiet))
  exact_at (Unreadable p l) comes stores sinks steady still quiet some told = plain_exact (Unreadable p l) comes (told (steady_from sink0 sink1 sink2 sinks quiet))
  exact_at Nothing comes stores sinks steady still quiet some told = plain_exact Nothing comes (told (steady_from sink0 sink1 sink2 sinks quiet))
  exact_at InUse comes stores sinks steady still quiet some told = plain_exact InUse comes (told (steady_from sink0 sink1 sink2 sinks quiet))
  exact_at Store comes stores sinks steady still quiet some told = absurd (still stores)
  exact_at Sink comes stores sinks steady still quiet some told = absurd (quiet (rose_on sink0 sink1 sink2 sinks steady))
  exact_at Memory comes stores sinks steady still quiet some told = absurd (some refl)

  left_at : (stop : Stop) → Comes words (Err stop) records is held0 mid → IsFront (stop_text stop) mid held → IsLeft words records (status_of stop) is held0 held
  left_at Words comes front = plain_left Words comes front
  left_at (Unreadable p l) comes front = plain_left (Unreadable p l) comes front
  left_at Nothing comes front = plain_left Nothing comes front
  left_at InUse comes front = plain_left InUse comes front
  left_at Store comes front = record { begun = comes.0; carried_out = λ _ e. absurd (e refl) }
  left_at Memory comes front = record { begun = comes.0; carried_out = λ e _. absurd (e refl) }
  left_at Sink comes front =
      let same : held ≡ mid = front.is ∙ nothing_more mid front.count in
      record {
        begun = inr (comes.0, comes.1, all_made comes.0 records is comes.2.1);
        carried_out = λ _ _. record {
          outcome = comes.0;
          run = comes.1;
          status_is = inr (ap is_mild comes.2.0, refl);
          stored = comes.2.1;
          front = subst (λ (h : Option (List ℕ)). IsFront comes.0.text held0 h) (sym same) comes.2.2;
        };
      }

  failed_left_at : (stop : Stop) → is_mild (status_of stop) ≡ true → Comes words (Err stop) records is held0 mid → IsFront (stop_text stop) mid held → IsLeft words records 31 is held0 held
  failed_left_at Words mild comes front = failed_left Words mild comes front
  failed_left_at (Unreadable p l) mild comes front = failed_left (Unreadable p l) mild comes front
  failed_left_at Nothing mild comes front = failed_left Nothing mild comes front
  failed_left_at InUse mild comes front = failed_left InUse mild comes front
  failed_left_at Store mild comes front = absurd (true≢false (sym mild))
  failed_left_at Sink mild comes front = absurd (true≢false (sym mild))
  failed_left_at Memory mild comes front = absurd (true≢false (sym mild))

  begun_of : (stop : Stop) → Comes words (Err stop) records is held0 mid → IsBegun words records is
  begun_of Words comes = inl comes.1
  begun_of (Unreadable p l) comes = inl comes.1
  begun_of Nothing comes = inl comes.1
  begun_of InUse comes = inl comes.1
  begun_of Store comes = comes.0
  begun_of Memory comes = comes.0
  begun_of Sink comes = inr (comes.0, comes.1, all_made comes.0 records is comes.2.1)

  left_three : (stop : Stop) → Comes words (Err stop) records is held0 mid → IsLeft words records 3 is held0 held
  left_three stop comes = record { begun = begun_of stop comes; carried_out = λ e _. absurd (e refl) }

  module _ (stop : Stop) (status : ℕ) (stopped : IsStopped stop status mid held sink1 sink2) where
    pub stopped_exact : Comes words (Err stop) records is held0 mid → IsStoreCount (Err stop) store0 store → IsSinkCount (Err stop) sink0 sink1
        → (Rose store0 store → ⊥) → (Rose sink0 sink2 → ⊥) → (status ≡ 3 → ⊥) → IsWhole words records status is held0 held
    stopped_exact comes stores sinks still quiet some = by stopped.status_is
      where
        by : IsEnding stop status sink1 sink2 → IsWhole words records status is held0 held
        by (inl ends) = absurd (some ends.0)
        by (inr (inl ends)) = subst (λ (s : ℕ). IsWhole words records s is held0 held) (sym ends.0)
            (exact_at stop comes stores sinks stopped.count still quiet (λ e. some (ends.0 ∙ e)) (λ calm. stopped.whole calm some))
        by (inr (inr ends)) = absurd (quiet (mild_rose stop sink0 sink1 sink2 ends.1 sinks ends.2))

    pub stopped_left : Comes words (Err stop) records is held0 mid → IsLeft words records status is held0 held
    stopped_left comes = by stopped.status_is
      where
        by : IsEnding stop status sink1 sink2 → IsLeft words records status is held0 held
        by (inl ends) = subst (λ (s : ℕ). IsLeft words records s is held0 held) (sym ends.0) (left_three stop comes)
        by (inr (inl ends)) = subst (λ (s : ℕ). IsLeft words records s is held0 held) (sym ends.0) (left_at stop comes stopped.front)
        by (inr (inr ends)) = subst (λ (s : ℕ). IsLeft words records s is held0 held) (sym ends.0) (failed_left_at stop ends.1 comes stopped.front)

module _ (words : List (List ℕ)) (held0 mid held : Option (List ℕ)) (store0 store sink0 sink1 sink2 : ℕ) where
  cause_three : HasCause words 3 store0 store sink0 sink2
  cause_three = record {
    known = refl;
    words_bad = λ e. absurd (omega (arith, e));
    bad_words = λ _ e. absurd (e refl);
    store_failed = λ e. absurd (omega (arith, e));
    store_well = λ _ e. absurd (e refl);
    sink_failed = λ e. absurd (omega (arith, e));
    sink_well = λ e. absurd (true≢false (sym e));
  }

  cause_at : (stop : Stop) → AreJudged words (Err stop) → IsStoreCount (Err stop) store0 store → IsSinkCount (Err stop) sink0 sink1 → IsSteady sink1 sink2 → (is_mild (status_of stop) ≡ true → sink2 ≡ sink1) → HasCause words (status_of stop) store0 store sink0 sink2
  cause_at Words judged stores sinks steady calm = record {
    known = refl;
    words_bad = λ _. judged;
    bad_words = λ _ _. refl;
    store_failed = λ e. absurd (omega (arith, e));
    store_well = λ _ _. stores;
    sink_failed = λ e. absurd (omega (arith, e));
    sink_well = λ e. absurd (true≢false (sym e));
  }
  cause_at (Unreadable p l) judged stores sinks steady calm = record {
    known = refl;
    words_bad = λ e. absurd (omega (arith, e));
    bad_words = λ refused _. absurd (judged refused);
    store_failed = λ e. absurd (omega (arith, e));
    store_well = λ _ _. stores;
    sink_failed = λ e. absurd (omega (arith, e));
    sink_well = λ e. absurd (true≢false (sym e));
  }
  cause_at Nothing judged stores sinks steady calm = record {
    known = refl;
    words_bad = λ e. absurd (omega (arith, e));
    bad_words = λ refused _. absurd (judged refused);
    store_failed = λ e. absurd (omega (arith, e));
    store_well = λ _ _. stores;
    sink_failed = λ e. absurd (omega (arith, e));
    sink_well = λ e. calm e ∙ sinks;
  }
  cause_at InUse judged stores sinks steady calm = absurd judged
  cause_at Store judged stores sinks steady calm = record {
    known = refl;
    words_bad = λ e. absurd (omega (arith, e));
    bad_words = λ refused _. absurd (judged refused);
    store_failed = λ _. stores;
    store_well = λ e _. absurd (e refl);
    sink_failed = λ e. absurd (omega (arith, e));
    sink_well = λ e. absurd (true≢false (sym e));
  }
  cause_at Sink judged stores sinks steady calm = record {
    known = refl;
    words_bad = λ e. absurd (omega (arith, e));
    bad_words = λ refused _. absurd (judged refused);
    store_failed = λ e. absurd (omega (arith, e));
    store_well = λ _ _. stores;
    sink_failed = λ _. rose_on sink0 sink1 sink2 sinks steady;
    sink_well = λ e. absurd (true≢false (sym e));
  }
  cause_at Memory judged stores sinks steady calm = cause_three

  -- the sink failed with the last text of an outcome that is not fatal
  cause_failed : (stop : Stop) → is_mild (status_of stop) ≡ true → AreJudged words (Err stop) → IsStoreCount (Err stop) store0 store → Rose sink0 sink2 → HasCause words 31 store0 store sink0 sink2
  cause_failed Nothing mild judged stores rose = record {
    known = refl;
    words_bad = λ e. absurd (omega (arith, e));
    bad_words = λ refused _. absurd (judged refused);
    store_failed = λ e. absurd (omega (arith, e));
    store_well = λ _ _. stores;
    sink_failed = λ _. rose;
    sink_well = λ e. absurd (true≢false (sym e));
  }
  cause_failed InUse mild judged stores rose = absurd judged
  cause_failed Words mild judged stores rose = absurd (true≢false (sym mild))
  cause_failed (Unreadable p l) mild judged stores rose = absurd (true≢false (sym mild))
  cause_failed Store mild judged stores rose = absurd (true≢false (sym mild))
  cause_failed Sink mild judged stores rose = absurd (true≢false (sym mild))
  cause_failed Memory mild judged stores rose = absurd (true≢false (sym mild))

  told_at : (stop : Stop) → IsQuiet (Err stop) held0 mid → IsSinkCount (Err stop) sink0 sink1 → IsFront (stop_text stop) mid held
      → ((Rose sink1 sink2 → ⊥) → (status_of stop ≡ 3 → ⊥) → held ≡ behind mid (stop_text stop)) → (is_mild (status_of stop) ≡ true → held ≡ behind mid (stop_text stop))
      → is_any fault_statuses (status_of stop) ≡ true → IsToldFault (status_of stop) held0 held sink0 sink2
  told_at Words quiet sinks front whole mild any = record {
    mild = λ e. absurd (true≢false (sym e));
    front = moved_front (stop_text Words) held0 mid held quiet front;
    whole = λ still. moved_whole (stop_text Words) held0 mid held quiet (whole (steady_from sink0 sink1 sink2 sinks still) (λ e. omega (arith, e)));
  }
  told_at Nothing quiet sinks front whole mild any = record {
    mild = λ e. moved_whole (stop_text Nothing) held0 mid held quiet (mild e);
    front = moved_front (stop_text Nothing) held0 mid held quiet front;
    whole = λ still. moved_whole (stop_text Nothing) held0 mid held quiet (whole (steady_from sink0 sink1 sink2 sinks still) (λ e. omega (arith, e)));
  }
  told_at Store quiet sinks front whole mild any = record {
    mild = λ e. absurd (true≢false (sym e));
    front = moved_front (stop_text Store) held0 mid held quiet front;
    whole = λ still. moved_whole (stop_text Store) held0 mid held quiet (whole (steady_from sink0 sink1 sink2 sinks still) (λ e. omega (arith, e)));
  }
  told_at (Unreadable p l) quiet sinks front whole mild any = absurd (true≢false (sym any))
  told_at InUse quiet sinks front whole mild any = absurd (true≢false (sym any))
  told_at Sink quiet sinks front whole mild any = absurd (true≢false (sym any))
  told_at Memory quiet sinks front whole mild any = absurd (true≢false (sym any))

  module _ (stop : Stop) (status : ℕ) (stopped : IsStopped stop status mid held sink1 sink2) where
    pub stopped_cause : AreJudged words (Err stop) → IsStoreCount (Err stop) store0 store → IsSinkCount (Err stop) sink0 sink1 → HasCause words status store0 store sink0 sink2
    stopped_cause judged stores sinks = by stopped.status_is
      where
        by : IsEnding stop status sink1 sink2 → HasCause words status store0 store sink0 sink2
        by (inl ends) = subst (λ (s : ℕ). HasCause words s store0 store sink0 sink2) (sym ends.0) cause_three
        by (inr (inl ends)) = subst (λ (s : ℕ). HasCause words s store0 store sink0 sink2) (sym ends.0) (cause_at stop judged stores sinks stopped.count ends.1)
        by (inr (inr ends)) = subst (λ (s : ℕ). HasCause words s store0 store sink0 sink2) (sym ends.0)
            (cause_failed stop ends.1 judged stores (mild_rose stop sink0 sink1 sink2 ends.1 sinks ends.2))

    pub stopped_told : IsQuiet (Err stop) held0 mid → IsSinkCount (Err stop) sink0 sink1 → is_any fault_statuses status ≡ true → IsToldFault status held0 held sink0 sink2
    stopped_told quiet sinks any = by stopped.status_is
      where
        by : IsEnding stop status sink1 sink2 → IsToldFault status held0 held sink0 sink2
        by (inl ends) = absurd (true≢false (sym any ∙ ap (is_any fault_statuses) ends.0))
        by (inr (inl ends)) = subst (λ (s : ℕ). IsToldFault s held0 held sink0 sink2) (sym ends.0)
            (told_at stop quiet sinks stopped.front (λ calm some. stopped.whole calm (λ e. some (sym ends.0 ∙ e))) (λ mild. stopped.mild (ap is_mild ends.0 ∙ mild))
            (sym (ap (is_any fault_statuses) ends.0) ∙ any))
        by (inr (inr ends)) = absurd (true≢false (sym any ∙ ap (is_any fault_statuses) ends.0))

-- ---- both

pub done_tool : (words : List (List ℕ)) (status : ℕ) (was is : Option Records) (held0 mid held : Option (List ℕ)) (store0 store sink0 sink1 sink2 : ℕ)
    → IsAnswer words (Ok tt) was is held0 mid store0 store sink0 sink1 → IsDone status mid held sink1 sink2 → IsTool words status was is held0 held store0 store sink0 sink2
done_tool words status was is held0 mid held store0 store sink0 sink1 sink2 answer ends = record {
  exact = λ records told _ quiet _.
      done_exact words records status is held0 mid held sink0 sink1 sink2 (answer.comes records told) ends.held_is answer.sink_count quiet ends.flushed;
  left = λ records told. done_left words records status is held0 mid held sink0 sink1 sink2 (answer.comes records told) ends.held_is ends.flushed;
  cause = done_cause words status held0 held sink0 sink1 sink2 store0 store answer.judged answer.store_count answer.sink_count ends.flushed;
  told = λ any. done_told words status held0 held sink0 sink1 sink2 ends.flushed any;
}

pub stopped_tool : (words : List (List ℕ)) (stop : Stop) (status : ℕ) (was is : Option Records) (held0 mid held : Option (List ℕ)) (store0 store sink0 sink1 sink2 : ℕ)
    → IsAnswer words (Err stop) was is held0 mid store0 store sink0 sink1 → IsStopped stop status mid held sink1 sink2 → IsTool words status was is held0 held store0 store sink0 sink2
stopped_tool words stop status was is held0 mid held store0 store sink0 sink1 sink2 answer ends = record {
  exact = λ records told still quiet some.
      stopped_exact words records is held0 mid held store0 store sink0 sink1 sink2 stop status ends (answer.comes records told) answer.store_count answer.sink_count still quiet some;
  left = λ records told. stopped_left words records is held0 mid held store0 store sink0 sink1 sink2 stop status ends (answer.comes records told);
  cause = stopped_cause words held0 mid held store0 store sink0 sink1 sink2 stop status ends answer.judged answer.store_count answer.sink_count;
  told = λ any. stopped_told words held0 mid held store0 store sink0 sink1 sink2 stop status ends answer.quiet answer.sink_count any;
}
