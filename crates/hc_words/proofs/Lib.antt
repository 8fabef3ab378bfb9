mod OneJob
mod Saying
mod Fitting
