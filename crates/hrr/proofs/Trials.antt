-- Every trial of the HRR segment holds: each is computed.
-- Assumes nothing.
use mathlib.Core.Path.{refl}
use Rattle.octets.specs.Holds.{Holds}
use Rattle.octets.specs.Octets.{be, bytes}
use Rattle.octets.specs.Layout.{pad, total, value}
use Rattle.mask.specs.Fields.{announced, announced_length, full_fields}
use Rattle.mask.specs.Mask.{any_set}
use Rattle.hrr.specs.Hrr.{hrr_mask, all_set, is_hrr_mask, hrr_fields, scatterer_count, scatterer_widths, widened, narrowed, hrr_size, is_hrr_size}
use Rattle.hrr.specs.Trials.{fields_with, trials}

pub all-trials : Holds trials
unfolding trials fields_with be bytes pad total value announced announced_length full_fields any_set hrr_mask all_set is_hrr_mask hrr_fields scatterer_count scatterer_widths widened narrowed hrr_size is_hrr_size
all-trials = (
  refl,
  (
    refl,
    (
      refl,
      (
        refl,
        (
          refl,
          (
            refl,
            (
              refl,
              (
                refl,
                (
                  refl,
                  (
                    refl,
                    (
                      refl,
                      (
                        refl,
                        (
                          refl,
                          (
                            refl,
                            (
                              refl,
                              (
                                refl,
                                (
                                  refl,
                                  (
                                    refl,
                                    (
                                      refl,
                                      (
                                        refl,
                                        (
                                          refl,
                                          (
                                            refl,
                                            (refl, (refl, (refl, (refl, (refl, (refl, (refl, (refl, (refl, (refl, tt)))))))))),
                                          ),
                                        ),
                                      ),
                                    ),
                                  ),
                                ),
                              ),
                            ),
                          ),
                        ),
                      ),
                    ),
                  ),
                ),
              ),
            ),
          ),
        ),
      ),
    ),
  ),
)
