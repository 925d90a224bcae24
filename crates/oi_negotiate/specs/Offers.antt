-- The offer's defaults.
use Rattle.std.specs.Prelude.{true, false}
use Rattle.oi_negotiate.specs.declared.offer.Offer.{Offer}

abbrev pub standard_offer : Offer
standard_offer = record {
  initial_r2t = false;
  immediate = true;
  max_burst = 16776192;
  first_burst = 262144;
  time2wait = 2;
  time2retain = 0;
  outstanding = 1;
  max_recv = 262144;
}
