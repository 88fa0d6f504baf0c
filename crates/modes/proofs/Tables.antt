-- The facts about both tables: each is a test that is computed at all 256 modes.
-- Assumes nothing.
use mathlib.Core.Path.{refl}
use Rattle.distinct.specs.Distinct.{is_among}
use Rattle.format.specs.Edition.{is_new_mode}
use Rattle.modes.specs.Modes.{edition1, edition3, system_in, place_from, system_number}
use Rattle.modes.specs.Tables.{runs_with, met_in, name_of, Table, ModeTables}
use Rattle.modes.specs.InnerEntries.{every}
use Rattle.modes.proofs.Every.{is_same, each-equal, each_within, each-text, each_same, each-outside}

of-1 : Table edition1 9
unfolding every system_in place_from system_number runs_with name_of
of-1 = record { one_run = each-equal 256 _ _ refl; within = each_within 256 _ _ refl; named = each-text 256 _ _ refl }

of-3 : Table edition3 12
unfolding every system_in place_from system_number runs_with name_of
of-3 = record { one_run = each-equal 256 _ _ refl; within = each_within 256 _ _ refl; named = each-text 256 _ _ refl }

pub mode-tables : ModeTables
unfolding every is_same is_among is_new_mode system_in place_from system_number met_in
mode-tables =
    record {
      of_edition1 = of-1;
      of_edition3 = of-3;
      in_order = refl;
      same_outside = each-outside 256 _ _ _ refl;
      new_where_different = each_same 256 _ _ refl;
    }
