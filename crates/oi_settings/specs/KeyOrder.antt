-- The order of keys is total.
use Rattle.std.specs.Cmp.{IsEquivalence, IsPartialEquivalence, IsTotalOrder, eq_by_cmp_equiv, nat_cmp_total, on_total, partial_equiv_from_equiv, then_total}
use Rattle.std.specs.Cmp.Lexicographic.{nat_list_cmp_total}
use Rattle.std.specs.Ordering.{eq_by_cmp}
use Rattle.oi_settings.specs.Keys.{key_cmp}

pub key_total : IsTotalOrder key_cmp
key_total =
    then_total (on_total (λ k. k.target) nat_list_cmp_total)
    (then_total (on_total (λ k. k.portal.address) nat_list_cmp_total)
    (then_total (on_total (λ k. k.portal.port) nat_cmp_total)
    (then_total (on_total (λ k. k.tag) nat_cmp_total) (on_total (λ k. k.iface) nat_list_cmp_total))))

pub key_equiv : IsEquivalence (eq_by_cmp key_cmp)
key_equiv = eq_by_cmp_equiv key_total

pub key_per : IsPartialEquivalence (eq_by_cmp key_cmp)
key_per = partial_equiv_from_equiv key_equiv
