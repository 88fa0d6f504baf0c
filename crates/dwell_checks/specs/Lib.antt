pub mod InnerPlan
