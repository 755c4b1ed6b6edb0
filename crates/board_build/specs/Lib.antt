pub mod Build
pub mod Laying
