-- The part of a sheet that a place stands for.
-- Assumes nothing.
use Rattle.spec.specs.Promises.{Part}
use Rattle.refusals.specs.Refusals.{sheet_number}
use Rattle.queries.specs.declared.Place.{Place}

abbrev pub part_of : Place → Part
part_of p = record { sheet = sheet_number p.sheet; start = p.start; size = p.len }
