-- What the program keeps of a replayed session, as its world.
use Rattle.std.specs.Prelude.{map}
use Rattle.oi_drive.specs.Worlds.{World, link_of}
use Rattle.oi_drive.specs.declared.runner.Runner.{Runner}

abbrev pub seen : Runner → World
seen r = record {
  session = r.solo;
  links = map link_of r.links.items;
  begun = r.begun;
  refused = r.refused;
  part = r.part.items;
  line = r.line;
  stop = r.stop;
}
