-- The example is permitted, entry by entry.
use Rattle.std.proofs.Common.{◌≡◌, drop, refl, arith, inr}
use Rattle.oi_history.specs.Configs.{IsValidConfig}
use Rattle.oi_history.specs.Meanings.{handed_so_far}
use Rattle.oi_history.specs.Permitted.{ArePermitted}
use Rattle.oi_session_laws.specs.Example.{example_config, example_history, example_outcomes}

-- what is left when the newest entries are dropped
after_1 : ArePermitted example_config (drop 13 example_history)
after_1 = (record { ascends = tt; comes = (refl, tt, refl); command = tt; numbered = tt; tagged = tt; pushed = tt; released = tt; drawn = tt; owed = tt; ticks = tt; lost = tt; login = tt; handed = tt; heeded = tt; behind = refl }, tt)

after_2 : ArePermitted example_config (drop 12 example_history)
after_2 = (record { ascends = omega arith; comes = tt; command = tt; numbered = tt; tagged = tt; pushed = tt; released = tt; drawn = tt; owed = tt; ticks = tt; lost = tt; login = (refl, omega arith, refl, refl); handed = tt; heeded = tt; behind = refl }, after_1)

after_3 : ArePermitted example_config (drop 11 example_history)
after_3 = (record { ascends = omega arith; comes = tt; command = (refl, refl, refl, refl, refl); numbered = (refl, refl); tagged = (refl, refl); pushed = tt; released = tt; drawn = tt; owed = tt; ticks = tt; lost = tt; login = tt; handed = tt; heeded = tt; behind = refl }, after_2)

after_4 : ArePermitted example_config (drop 10 example_history)
after_4 = (record { ascends = omega arith; comes = tt; command = tt; numbered = tt; tagged = tt; pushed = tt; released = tt; drawn = tt; owed = tt; ticks = tt; lost = tt; login = tt; handed = tt; heeded = refl; behind = refl }, after_3)

after_5 : ArePermitted example_config (drop 9 example_history)
after_5 = (record { ascends = omega arith; comes = tt; command = tt; numbered = tt; tagged = tt; pushed = tt; released = tt; drawn = tt; owed = (refl, inr (omega arith)); ticks = tt; lost = tt; login = tt; handed = tt; heeded = tt; behind = refl }, after_4)

after_6 : ArePermitted example_config (drop 8 example_history)
after_6 = (record { ascends = omega arith; comes = tt; command = tt; numbered = tt; tagged = tt; pushed = tt; released = tt; drawn = tt; owed = tt; ticks = tt; lost = (refl, refl); login = tt; handed = tt; heeded = tt; behind = refl }, after_5)

after_7 : ArePermitted example_config (drop 7 example_history)
after_7 = (record { ascends = omega arith; comes = tt; command = tt; numbered = tt; tagged = tt; pushed = tt; released = tt; drawn = tt; owed = tt; ticks = tt; lost = tt; login = (refl, omega arith, refl, refl); handed = tt; heeded = tt; behind = refl }, after_6)

after_8 : ArePermitted example_config (drop 6 example_history)
after_8 = (record { ascends = omega arith; comes = tt; command = (refl, refl, refl, refl, refl); numbered = (refl, refl); tagged = (refl, refl); pushed = tt; released = tt; drawn = tt; owed = tt; ticks = tt; lost = tt; login = tt; handed = tt; heeded = tt; behind = refl }, after_7)

after_9 : ArePermitted example_config (drop 5 example_history)
after_9 = (record { ascends = omega arith; comes = tt; command = tt; numbered = tt; tagged = tt; pushed = tt; released = tt; drawn = tt; owed = tt; ticks = tt; lost = tt; login = tt; handed = tt; heeded = tt; behind = tt }, after_8)

after_10 : ArePermitted example_config (drop 4 example_history)
after_10 = (record { ascends = omega arith; comes = tt; command = tt; numbered = tt; tagged = tt; pushed = tt; released = tt; drawn = tt; owed = tt; ticks = tt; lost = tt; login = tt; handed = (refl, omega arith); heeded = tt; behind = tt }, after_9)

after_11 : ArePermitted example_config (drop 3 example_history)
after_11 = (record { ascends = omega arith; comes = (refl, tt, refl); command = tt; numbered = tt; tagged = tt; pushed = tt; released = tt; drawn = tt; owed = tt; ticks = tt; lost = tt; login = tt; handed = tt; heeded = tt; behind = refl }, after_10)

after_12 : ArePermitted example_config (drop 2 example_history)
after_12 = (record { ascends = omega arith; comes = tt; command = tt; numbered = tt; tagged = tt; pushed = tt; released = refl; drawn = tt; owed = tt; ticks = tt; lost = tt; login = tt; handed = tt; heeded = tt; behind = refl }, after_11)

after_13 : ArePermitted example_config (drop 1 example_history)
after_13 = (record { ascends = omega arith; comes = tt; command = tt; numbered = tt; tagged = tt; pushed = tt; released = tt; drawn = tt; owed = tt; ticks = tt; lost = tt; login = tt; handed = tt; heeded = tt; behind = refl }, after_12)

after_14 : ArePermitted example_config (drop 0 example_history)
after_14 = (record { ascends = omega arith; comes = tt; command = tt; numbered = tt; tagged = tt; pushed = tt; released = tt; drawn = tt; owed = tt; ticks = tt; lost = tt; login = tt; handed = (refl, omega arith); heeded = tt; behind = tt }, after_13)

valid : IsValidConfig example_config
valid = record {
  tries = (omega arith, omega arith);
  replacement = (omega arith, omega arith);
  noop_interval = omega arith;
  noop_timeout = (omega arith, omega arith);
  abort = (omega arith, omega arith);
  lun_reset = (omega arith, omega arith);
  target_reset = (omega arith, omega arith);
  logout = (omega arith, omega arith);
  cmds_max = (omega arith, omega arith);
  steps = (omega arith, omega arith);
  kept = (omega arith, omega arith);
  queue_depth = (omega arith, omega arith);
}

pub example_is_permitted : IsValidConfig example_config × ArePermitted example_config example_history × (handed_so_far example_config example_history ≡ example_outcomes)
example_is_permitted = (valid, after_14, refl)
